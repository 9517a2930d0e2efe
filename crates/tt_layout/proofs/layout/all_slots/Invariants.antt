use Rattle.std.proofs.Common.{◌≡◌, ◌*◌, ◌≤◌, sum_by, take}
use Rattle.ttp_model.specs.Slots.{slot_duration}
use Rattle.ttp_model.specs.declared.limits.TheConstants.{MOST_DURATION}
use Rattle.tt_layout.proofs.layout.all_slots.Given as goal

abbrev pub invariant-loop-capacity : goal.invariant-loop-capacity
invariant-loop-capacity l = (l.total ≡ sum_by (slot_duration l.c) (take l.capacity-index l.caps)) × (l.total ≤ l.capacity-index * MOST_DURATION)
