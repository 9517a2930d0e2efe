use Rattle.std.proofs.Common.{◌<◌, length, arith, ap}
use Rattle.earliest_starts.proofs.Arrivals.{AreFloors-releases, AreFloors-raised}
use Rattle.earliest_starts.proofs.floors.floors.Goals as goal

pub loop-m-init : goal.loop-m-init
loop-m-init c = AreFloors-releases _ _ _ c.messages.ensures.instance c.in_ok-floors.ensures.all c.in_ok-floors.ensures.each

pub loop-m-preserved : goal.loop-m-preserved
loop-m-preserved c =
    let inside : c.loop-m.m < length c.args.instance.now.messages = omega (arith, ap length c.messages.ensures.value, c.loop-m-test.true) in
    let receivers = rw (c.as_slice-receivers.ensures, c.message_at.ensures.value) at c.raise.ensures in
    AreFloors-raised _ _ c.loop-m.m c.arrival-time.result c.loop-m.floors.items c.raise.new.times.items inside c.arrival-time.ensures.value c.arrival-time.ensures.small c.loop-m.invariant receivers.all receivers.kept receivers.raised receivers.cause
