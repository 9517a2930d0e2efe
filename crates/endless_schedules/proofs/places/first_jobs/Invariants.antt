use Rattle.std.proofs.Common.{◌≡◌, ◌≤◌, map}
use Rattle.std.specs.List.{range_with_len}
use Rattle.ttp_model.specs.Limits.{most_processes}
use Rattle.ttp_model.specs.Totals.{total}
use Rattle.rates_model.specs.Cycles.{jobs_of}
use Rattle.endless_schedules.proofs.places.first_jobs.Given as goal

abbrev pub invariant-loop-p : goal.invariant-loop-p
invariant-loop-p l = record {
  so_far : l.first.items ≡ map (λ p. total (jobs_of l.rates) p) (range_with_len 0 l.p);
  counted : l.count ≡ total (jobs_of l.rates) l.p;
  few : l.count ≤ most_processes;
}
