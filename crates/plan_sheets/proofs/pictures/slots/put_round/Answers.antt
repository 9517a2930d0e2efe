use Rattle.std.proofs.Common.{◌≡◌, ap, arith, length}
use Rattle.plan_sheets.specs.SlotRectangles.{position_slots, round_slots}
use Rattle.plan_sheets.proofs.PictureGrowing.{range_grows}
use Rattle.plan_sheets.proofs.pictures.slots.put_round.Goals as goal

pub of-layout-requires-clause-capacities : goal.of-layout-requires-clause-capacities
of-layout-requires-clause-capacities c = rw c.as_slice-2.ensures c.requires.capacities

pub loop-k-preserved : goal.loop-k-preserved
loop-k-preserved c =
    range_grows _ _ _ (position_slots c.args.canvas.now c.args.instance.now c.args.plan.now c.args.load c.args.round) c.loop-k.k c.loop-k.invariant c.in_ok-put_position.ensures

pub returns : goal.returns
unfolding round_slots
returns c =
    let all : c.loop-k.k ≡ length c.args.instance.now.nodes = omega (arith, ap length c.nodes-count.ensures.value) in
    rw all at c.loop-k.invariant
