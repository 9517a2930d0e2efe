use Rattle.std.proofs.Common.{arith}
use Rattle.incumbent.proofs.Watches.{joins}
use Rattle.incumbent.proofs.word.Incumbent.join.Goals as goal

pub join_seat-requires : goal.join_seat-requires
join_seat-requires c =
    (c.requires.opening.0, c.requires.other, c.args.other.empty, omega arith, joins _ _ _ _ _ c.requires.opening.1 c.args.watch.now.live c.args.other.live)
