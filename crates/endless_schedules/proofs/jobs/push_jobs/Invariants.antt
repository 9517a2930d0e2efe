use Rattle.std.proofs.Common.{◌≡◌, ◌++◌, map}
use Rattle.std.specs.List.{range_with_len}
use Rattle.endless_schedules.specs.Unrolled.{job}
use Rattle.endless_schedules.proofs.jobs.push_jobs.Given as goal

abbrev pub invariant-loop-k : goal.invariant-loop-k
invariant-loop-k l = l.list.items ≡ l.initial.list.items ++ map (job l.rates l.p) (range_with_len 0 l.k)
