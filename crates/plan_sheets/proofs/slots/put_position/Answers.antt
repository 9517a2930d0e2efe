use Rattle.std.proofs.Common.{◌≡◌, ap, arith}
use Rattle.ttp_model.specs.declared.parts.Cluster.{Cluster}
use Rattle.plan_sheets.specs.Slots.{position_text, slot_text}
use Rattle.plan_sheets.proofs.Frames.{slot-there}
use Rattle.plan_sheets.proofs.Growing.{line_begins, line_starts, range_grows}
use Rattle.plan_sheets.proofs.slots.put_position.Goals as goal

pub put_slot-requires-clause-there : goal.put_slot-requires-clause-there
put_slot-requires-clause-there c =
    rw c.in_ok-row.ensures (slot-there c.args.instance.now c.args.plan.now c.args.round c.args.k c.loop-channel.channel c.requires.valid c.requires.inside)

pub put_slot-requires-clause-start : goal.put_slot-requires-clause-start
put_slot-requires-clause-start c = line_starts _ _ c.loop-channel.invariant

pub loop-channel-init : goal.loop-channel-init
loop-channel-init c = line_begins _ c.requires.start

pub loop-channel-preserved : goal.loop-channel-preserved
unfolding slot_text
loop-channel-preserved c =
    let lines = slot_text c.args.instance.now c.args.plan.now c.args.round c.args.k in
    range_grows _ _ _ lines c.loop-channel.channel c.loop-channel.invariant (rw c.in_ok-row.ensures at c.in_ok-put_slot.ensures)

pub returns : goal.returns
unfolding position_text
returns c =
    let all : c.loop-channel.channel ≡ c.args.instance.now.cluster.channels = omega (arith, ap (λ (x : Cluster). x.channels) c.cluster.ensures.value) in
    rw all at c.loop-channel.invariant
