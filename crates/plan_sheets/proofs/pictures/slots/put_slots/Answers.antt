use Rattle.std.proofs.Common.{◌≡◌, arith}
use Rattle.tt_layout.specs.Cycle.{cycle_rounds}
use Rattle.plan_sheets.specs.SlotRectangles.{round_slots, slots_text}
use Rattle.plan_sheets.proofs.PictureGrowing.{range_grows}
use Rattle.plan_sheets.proofs.pictures.slots.put_slots.Goals as goal

pub loop-round-preserved : goal.loop-round-preserved
loop-round-preserved c = range_grows _ _ _ (round_slots c.args.canvas.now c.args.instance.now c.args.plan.now c.args.load) c.loop-round.round c.loop-round.invariant c.in_ok-put_round.ensures

pub returns : goal.returns
unfolding slots_text
returns c =
    let all : c.loop-round.round ≡ cycle_rounds c.args.instance.now c.args.plan.now = omega (arith, c.cycle_rounds-rounds.ensures.value) in
    rw all at c.loop-round.invariant
