use Rattle.std.proofs.Common.{◌≡◌, ◌*◌, ◌^◌, ◌≤◌}
use Rattle.ttp_model.specs.Totals.{total}
use Rattle.rates_model.specs.Cycles.{jobs_of}
use Rattle.endless_schedules.proofs.first_jobs.first_job.Given as goal

abbrev pub invariant-loop-before : goal.invariant-loop-before
invariant-loop-before l = record {
  so_far : l.first ≡ total (jobs_of l.rates) l.before;
  small : l.first ≤ l.before * 10 ^ 6;
}
