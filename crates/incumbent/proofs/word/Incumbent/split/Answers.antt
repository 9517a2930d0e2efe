use Rattle.std.proofs.Common.{arith}
use Rattle.incumbent.proofs.Watches.{splits}
use Rattle.incumbent.proofs.word.Incumbent.split.Goals as goal

pub split_seat-seat-requires : goal.split_seat-seat-requires
split_seat-seat-requires c = (c.requires.0, omega arith, splits _ _ _ c.requires.1 c.args.watch.now.live)
