-- The first process of a circle that isn't there.
use Rattle.std.proofs.Common.{arith}
use Rattle.certificate_reasons.proofs.absent.no_ring.Goals as goal

pub unreachable-requires : goal.unreachable-requires
unreachable-requires c =
    let fails = rw (← c.as_slice-processes.ensures.value) at c.requires in
    let two = rw (← c.as_slice-processes.ensures.value) at c.as_slice-processes.ensures.two in
    fails (two, λ j less. c.loop-k.invariant j (omega (arith, less, c.loop-k-test.false)))
