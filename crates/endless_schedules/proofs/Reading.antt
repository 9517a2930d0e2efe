-- What is read of a plan's starts is where jobs start, and what is computed of it when they start in their periods and how old what they
-- carry is.
use Rattle.std.proofs.Common.{◌≡◌, ℕ, ◌+◌, ◌-◌, ◌*◌, ◌<◌, length, slice_index, arith, ap}
use Rattle.ttp_model.specs.declared.plan.Plan.{Plan}
use Rattle.ttp_model.specs.Plans.{IsValid}
use Rattle.ttp_model.specs.Totals.{total}
use Rattle.rates_model.specs.declared.parts.Chain.{Chain}
use Rattle.rates_model.specs.Rates.{Rates, period_of, process_at}
use Rattle.rates_model.specs.Cycles.{cycle, jobs_of}
use Rattle.rates_model.specs.Ages.{last_of}
use Rattle.endless_schedules.specs.Stores.{job_index}
use Rattle.endless_schedules.specs.Times.{carried_release}
use Rattle.endless_schedules.specs.Unrolled.{unrolled}
use Rattle.endless_schedules.specs.Runs.{Job, place_of}
use Rattle.endless_schedules.proofs.RunPlaces.{place_inside}
use Rattle.endless_schedules.proofs.ForEver.{first_start, late_age}

module _ (rho : Rates) (plan : Plan) (p k first : ℕ) (is : first ≡ total (jobs_of rho) p) where
  job_place : first + k ≡ place_of rho (Job p k)
  unfolding job_index
  job_place = ap (λ (x : ℕ). x + k) is

  -- it is there
  pub start_inside : IsValid (unrolled rho) plan → p < length rho.processes → k < jobs_of rho p → first + k < length plan.starts
  start_inside v inside there = omega (arith, job_place, v.lengths.starts, place_inside rho (Job p k) (inside, there))

  start_at : slice_index plan.starts (first + k) ≡ slice_index plan.starts (place_of rho (Job p k))
  start_at = ap (slice_index plan.starts) job_place

  pub start_read : (at begin start : ℕ) → at ≡ slice_index plan.starts (first + k) → begin ≡ k * period_of rho p → start ≡ at - begin → start ≡ first_start rho plan p k
  start_read at begin start read begins less = omega (arith, read, begins, less, start_at)

module _ (rho : Rates) (plan : Plan) (chain : Chain) (k first : ℕ) (is : first ≡ total (jobs_of rho) (last_of chain)) where
  pub age_read : (at wcet back release age : ℕ) → at ≡ slice_index plan.starts (first + k) → wcet ≡ (process_at rho (last_of chain)).wcet → back ≡ 2 * length chain.through * cycle rho
      → release ≡ carried_release rho chain k → age ≡ back + (at + wcet) - release → age ≡ late_age rho plan chain k
  age_read at wcet back release age read takes far carried less = omega (arith, read, takes, far, carried, less, start_at rho plan (last_of chain) k first is)
