use Rattle.std.proofs.Common.{◌≡◌, ap, arith}
use Rattle.ttp_model.specs.declared.parts.Cluster.{Cluster}
use Rattle.plan_sheets.proofs.Frames.{slot-there}
use Rattle.plan_sheets.specs.SlotRectangles.{position_slots, slot_at}
use Rattle.plan_sheets.proofs.PictureGrowing.{range_grows}
use Rattle.plan_sheets.proofs.pictures.slots.put_position.Goals as goal

pub put_slot-requires-clause-there : goal.put_slot-requires-clause-there
put_slot-requires-clause-there c =
    rw c.in_ok-slot.ensures (slot-there c.args.instance.now c.args.plan.now c.args.round c.args.k c.loop-channel.channel c.requires.valid c.requires.inside)

pub put_slot-requires-clause-order : goal.put_slot-requires-clause-order
put_slot-requires-clause-order c = rw c.in_ok-slot.ensures (omega arith)

pub loop-channel-preserved : goal.loop-channel-preserved
unfolding slot_at
loop-channel-preserved c =
    range_grows _ _ _ (slot_at c.args.canvas.now c.args.instance.now c.args.plan.now c.args.load c.args.round c.args.k) c.loop-channel.channel c.loop-channel.invariant (rw c.in_ok-slot.ensures at c.in_ok-put_slot.ensures)

pub returns : goal.returns
unfolding position_slots
returns c =
    let all : c.loop-channel.channel ≡ c.args.instance.now.cluster.channels = omega (arith, ap (λ (x : Cluster). x.channels) c.cluster.ensures.value) in
    rw all at c.loop-channel.invariant
