use Rattle.std.proofs.Common.{◌≡◌, ◌++◌, take}
use Rattle.std.specs.List.{flat_map}
use Rattle.endless_schedules.specs.Unrolled.{jobs_reading}
use Rattle.endless_schedules.proofs.messages.push_all_reading.Given as goal

abbrev pub invariant-loop-q : goal.invariant-loop-q
invariant-loop-q l = l.list.items ≡ l.initial.list.items ++ flat_map (jobs_reading l.rates l.message l.k) (take l.q-index l.q-items)
