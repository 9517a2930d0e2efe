use Rattle.std.proofs.Common.{◌≡◌, ap, arith, length}
use Rattle.plan_sheets.specs.Slots.{position_text, round_text}
use Rattle.plan_sheets.proofs.Growing.{line_begins, line_starts, range_grows}
use Rattle.plan_sheets.proofs.slots.put_round.Goals as goal

pub of-layout-requires-clause-capacities : goal.of-layout-requires-clause-capacities
of-layout-requires-clause-capacities c = rw c.as_slice-2.ensures c.requires.valid.capacities

pub put_position-requires-clause-start : goal.put_position-requires-clause-start
put_position-requires-clause-start c = line_starts _ _ c.loop-k.invariant

pub loop-k-init : goal.loop-k-init
loop-k-init c = line_begins _ c.requires.start

pub loop-k-preserved : goal.loop-k-preserved
loop-k-preserved c =
    range_grows _ _ _ (position_text c.args.instance.now c.args.plan.now c.args.round) c.loop-k.k c.loop-k.invariant c.in_ok-put_position.ensures

pub returns : goal.returns
unfolding round_text
returns c =
    let all : c.loop-k.k ≡ length c.args.instance.now.nodes = omega (arith, ap length c.nodes-count.ensures.value) in
    rw all at c.loop-k.invariant
