use Rattle.tt_layout.proofs.SlotTimes.{slot_end-le-slot_start}
use Rattle.tt_layout.proofs.laws.slots_are_apart.Goals as goal

pub returns : goal.returns
returns c = λ cluster order caps j k r s o. slot_end-le-slot_start cluster order caps o j k r s
