use Rattle.std.proofs.Common.{◌≡◌, arith}
use Rattle.ttp_model.specs.Instance.{node_of}
use Rattle.ttp_model.proofs.ValidPlans.{two_apart}
use Rattle.tt_layout.proofs.SlotTimes.{slot_end-le-slot_start}
use Rattle.plan_sheets.proofs.pictures.laws.rectangles_are_apart.Goals as goal

pub returns-clause-slots : goal.returns-clause-slots
returns-clause-slots c = λ i plan j k r s channel w inside-j inside-k order.
    omega (arith, slot_end-le-slot_start i.cluster plan.order plan.caps (rw w.lengths.capacities w.order) j k r s (omega (arith, inside-j, w.order.all)) (omega (arith, inside-k, w.order.all)) order)

pub returns-clause-processes : goal.returns-clause-processes
returns-clause-processes c = λ i plan p q w inside-p inside-q other row.
    let node : node_of i p ≡ node_of i q = omega (arith, row) in
    two_apart i plan p q w inside-p inside-q other node
