use Rattle.std.proofs.Common.{◌≡◌, slice_index, arith}
use Rattle.ttp_model.specs.Slots.{slot_start}
use Rattle.tt_layout.proofs.SlotTimes.{offset-at}
use Rattle.evidence.proofs.model.slots.first_slot_of_round.Goals as goal

pub of-layout-requires-clause-capacities : goal.of-layout-requires-clause-capacities
of-layout-requires-clause-capacities c = rw c.as_slice.ensures c.in-Ok.ensures.ok.capacities

pub returns : goal.returns
returns c =
    let cluster = c.args.instance.now.cluster in
    let plan = c.args.plan.now in
    let valid = c.in-Ok.ensures.ok in
    let order = rw (← valid.lengths.capacities) at valid.order in
    let first = offset-at cluster plan.order plan.caps order 0 (omega (
      arith,
      order.all,
      valid.lengths.capacities,
      c.nodes-nodes.ensures.instance.limits.nodes_least,
    )) in
    let start : c.slot_start.result ≡ slot_start cluster plan.order plan.caps (slice_index plan.order 0) c.args.round = rw (
      c.of-layout.ensures,
      c.as_slice-order.ensures,
      c.as_slice.ensures,
    ) at c.slot_start.ensures.value in
    omega (arith, first, start)
