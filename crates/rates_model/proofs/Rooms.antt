-- Where jobs are in a cycle, in ticks and in number.
use Rattle.std.proofs.Common.{◌≡◌, ◌∙◌, ℕ, ◌+◌, ◌*◌, ◌<◌, ◌≤◌, inl, inr, arith, ap}
use Rattle.std.proofs.lemmas.Bool.{cases_lt}
use Rattle.std.proofs.lemmas.Nat.{div_below}
use Rattle.std.proofs.Math.Nat.{add-mul, mul-le-mul_right, one-mul, zero-mul}
use Rattle.ttp_model.specs.Limits.{most_ticks}
use Rattle.rates_model.specs.Rates.{Rates, period_of, process_at}
use Rattle.rates_model.specs.Cycles.{cycle, jobs_of}
use Rattle.rates_model.specs.Reads.{last_begun}
use Rattle.rates_model.specs.Rules.{IsRates, IsRatesProcess}
use Rattle.rates_model.proofs.Periods.{cycle_common, jobs_whole, period_some}

-- a period is over by the end of the cycle
pub period_room : (n t h k : ℕ) → k < n → n * t ≡ h → k * t + t ≤ h
period_room n t h k below whole =
    let over : k + 1 ≤ n = omega (arith, below) in
    let times : (k + 1) * t ≤ n * t = mul-le-mul_right t over in
    let spread : (k + 1) * t ≡ k * t + t = add-mul k 1 t ∙ ap (λ m. k * t + m) (one-mul t) in
    omega (arith, times, spread, whole)

module _ (rho : Rates) (w : IsRates rho) where
  pub job_room : (p k : ℕ) → IsRatesProcess rho p → k < jobs_of rho p → k * period_of rho p + period_of rho p ≤ cycle rho
  job_room p k inside below = period_room (jobs_of rho p) (period_of rho p) (cycle rho) k below (jobs_whole rho w p inside)

  -- with its release and its deadline
  pub release_room : (p k : ℕ) → IsRatesProcess rho p → k < jobs_of rho p → k * period_of rho p + (process_at rho p).release ≤ most_ticks
  release_room p k inside below = omega (arith, job_room p k inside below, (w.rooms p inside).ends, (w.rooms p inside).within, w.cycles)

  pub deadline_room : (p k : ℕ) → IsRatesProcess rho p → k < jobs_of rho p → k * period_of rho p + (process_at rho p).deadline ≤ most_ticks
  deadline_room p k inside below = omega (arith, job_room p k inside below, (w.rooms p inside).within, w.cycles)

  pub begin_room : (p k : ℕ) → IsRatesProcess rho p → k < jobs_of rho p → k * period_of rho p ≤ most_ticks
  begin_room p k inside below = omega (arith, job_room p k inside below, w.cycles)

  -- the job that has begun last is one of this cycle
  pub begun_inside : (p q j : ℕ) → IsRatesProcess rho p → IsRatesProcess rho q → j < jobs_of rho q → last_begun rho p q j < jobs_of rho p
  begun_inside p q j at_p at_q below =
      let room = job_room q j at_q below in
      let lower : j * period_of rho q < jobs_of rho p * period_of rho p = omega (arith, room, jobs_whole rho w p at_p, period_some rho w q at_q) in
      div_below (j * period_of rho q) (period_of rho p) (jobs_of rho p) (period_some rho w p at_p) lower

  -- each process has a job
  pub job_some : (p : ℕ) → IsRatesProcess rho p → 0 < jobs_of rho p
  job_some p inside = elim (cases_lt 0 (jobs_of rho p)) [
    | inl some ↦ some
    | inr none ↦
        let no : jobs_of rho p ≡ 0 = omega (arith, none) in
        let whole : 0 * period_of rho p ≡ cycle rho = rw no at (jobs_whole rho w p inside) in
        absurd (omega (arith, whole, zero-mul (period_of rho p), (cycle_common rho w).some))
  ]
