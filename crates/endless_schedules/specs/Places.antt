-- Which index each first job and each first store has, as the code keeps it.
use Rattle.std.specs.Prelude.{◌≡◌, ℕ, ◌≤◌, length, map}
use Rattle.ttp_model.specs.Limits.{most_processes}
use Rattle.ttp_model.specs.Totals.{total}
use Rattle.rates_model.specs.Rates.{Rates}
use Rattle.rates_model.specs.Cycles.{jobs_of}
use Rattle.endless_schedules.specs.declared.places.Places.{Places}
use Rattle.endless_schedules.specs.Stores.{all_storing, first_store}
use Rattle.endless_schedules.specs.Unrolled.{below}

-- how many processes there are
abbrev pub process_count : Rates → ℕ
process_count rho = first_store rho (length rho.messages)

-- the first indices of jobs and of stores, and the nodes that store each message
pub record ArePlaces (rho : Rates) (places : Places) : Type 0 where
  pub jobs : places.first_jobs.items ≡ map (λ p. total (jobs_of rho) p) (below (length rho.processes))
  pub stores : places.first_stores.items ≡ map (first_store rho) (below (length rho.messages))
  pub storing : places.storing.items ≡ all_storing rho
  pub few : process_count rho ≤ most_processes
