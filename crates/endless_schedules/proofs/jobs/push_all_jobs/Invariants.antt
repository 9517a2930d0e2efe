use Rattle.std.proofs.Common.{◌≡◌, ◌++◌}
use Rattle.std.specs.List.{flat_map, range_with_len}
use Rattle.endless_schedules.specs.Unrolled.{jobs}
use Rattle.endless_schedules.proofs.jobs.push_all_jobs.Given as goal

abbrev pub invariant-loop-p : goal.invariant-loop-p
invariant-loop-p l = l.list.items ≡ l.initial.list.items ++ flat_map (jobs l.rates) (range_with_len 0 l.p)
