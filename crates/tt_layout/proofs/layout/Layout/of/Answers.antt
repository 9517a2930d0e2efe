use Rattle.tt_layout.proofs.Bounds.{bounded, round_positive}
use Rattle.tt_layout.proofs.layout.Layout.of.Goals as goal

pub all_slots-round-requires-clause-ranges : goal.all_slots-round-requires-clause-ranges
all_slots-round-requires-clause-ranges c =
    let r = c.requires in
    rw c.cluster.ensures.value (bounded _ _ _ c.cluster.ensures.instance r.order r.length r.capacities).ranges

pub all_slots-round-requires-clause-small : goal.all_slots-round-requires-clause-small
all_slots-round-requires-clause-small c =
    let r = c.requires in
    (bounded _ _ _ c.cluster.ensures.instance r.order r.length r.capacities).small

pub invariant_of-result : goal.invariant_of-result
invariant_of-result c =
    let r = c.requires in
    let b = bounded _ _ _ c.cluster.ensures.instance r.order r.length r.capacities in
    let is = rw c.cluster.ensures.value at c.all_slots-round.ensures.length in
    (b, record { value = is; some = rw is (round_positive _ _ b.ranges b.some); bound = c.all_slots-round.ensures.bound })
