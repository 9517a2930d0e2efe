use Rattle.std.proofs.Common.{arith}
use Rattle.command_streams.proofs.Written.{Appends-take_more}
use Rattle.command_streams.proofs.output.write_text.Goals as goal

pub writes-preserved : goal.writes-preserved
writes-preserved g c =
    let taken = rw c.split_at.ensures.back at c.in-Ok.ensures.bytes in
    (omega (arith, c.in-Ok.ensures.bound), Appends-take_more _ _ _ _ _ _ c.writes.invariant.1 taken)
