use Rattle.std.proofs.Common.{◌≡◌, ◌≤◌, map}
use Rattle.std.specs.List.{range_with_len}
use Rattle.ttp_model.specs.Limits.{most_processes}
use Rattle.endless_schedules.specs.Stores.{first_store}
use Rattle.endless_schedules.proofs.places.first_stores.Given as goal

abbrev pub invariant-loop-m : goal.invariant-loop-m
invariant-loop-m l = record {
  so_far : l.first.items ≡ map (first_store l.rates) (range_with_len 0 l.m);
  counted : l.count ≡ first_store l.rates l.m;
  few : l.count ≤ most_processes;
}
