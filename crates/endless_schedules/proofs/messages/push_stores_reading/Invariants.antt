use Rattle.std.proofs.Common.{◌≡◌, ◌+◌, ◌++◌, map}
use Rattle.std.specs.List.{range_with_len}
use Rattle.endless_schedules.specs.Stores.{first_store}
use Rattle.endless_schedules.proofs.messages.push_stores_reading.Given as goal

abbrev pub invariant-loop-place : goal.invariant-loop-place
invariant-loop-place l = l.list.items ≡ l.initial.list.items ++ map (λ place. first_store l.rates l.m + place) (range_with_len 0 l.place)
