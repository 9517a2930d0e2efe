use Rattle.std.proofs.Common.{◌≡◌, ◌++◌, take}
use Rattle.std.specs.List.{flat_map}
use Rattle.endless_schedules.specs.Unrolled.{stores}
use Rattle.endless_schedules.proofs.stores.push_all_stores.Given as goal

abbrev pub invariant-loop-m : goal.invariant-loop-m
invariant-loop-m l = l.list.items ≡ l.initial.list.items ++ flat_map (stores l.rates) (take l.m l.rates.messages)
