use Rattle.std.proofs.Common.{refl}
use Rattle.command_streams.proofs.StatedOnce.{over_limit}
use Rattle.command_streams.proofs.input.read_all.Goals as goal

pub returns-in-OverLimit-clause-err : goal.returns-in-OverLimit-clause-err
returns-in-OverLimit-clause-err g c =
    (refl, over_limit c.args.limit c.in-Ok.taken (g.R.Read.remaining c.args.reader.now) c.in-OverLimit.is c.in-Ok.ensures.taken)
