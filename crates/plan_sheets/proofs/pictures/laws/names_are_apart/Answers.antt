use Rattle.std.proofs.Common.{arith, slice_index}
use Rattle.ttp_model.specs.declared.error.Place.TheVariants.{AtCluster}
use Rattle.tt_layout.proofs.SlotTimes.{slot_end-le-slot_start}
use Rattle.plan_sheets.specs.Slots.{slot_of}
use Rattle.plan_sheets.proofs.Room.{room-ends}
use Rattle.plan_sheets.proofs.pictures.laws.names_are_apart.Goals as goal

pub returns : goal.returns
returns c = λ canvas i plan j k r s channel wi w inside-j inside-k order carries.
    let apart = slot_end-le-slot_start i.cluster plan.order plan.caps (rw w.lengths.capacities w.order) j k r s (omega (arith, inside-j, w.order.all)) (omega (arith, inside-k, w.order.all)) order in
    let some = (wi.ranges AtCluster).head_least in
    omega (arith, apart, some, room-ends canvas i plan (slot_of i plan r j channel) (slice_index plan.order k) s carries (omega (arith, apart, some)))
