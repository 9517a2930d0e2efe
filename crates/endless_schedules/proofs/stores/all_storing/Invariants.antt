use Rattle.std.proofs.Common.{◌≡◌, map, take}
use Rattle.endless_schedules.specs.Stores.{storing_nodes}
use Rattle.endless_schedules.proofs.stores.all_storing.Given as goal

abbrev pub invariant-loop-m : goal.invariant-loop-m
invariant-loop-m l = l.all.items ≡ map (storing_nodes l.rates) (take l.m l.rates.messages)
