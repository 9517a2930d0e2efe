-- A cycle is some whole number of each period of a well-formed cluster.
use Rattle.std.proofs.Common.{◌≡◌, ℕ, ◌*◌, ◌%◌, ◌<◌, ◌≤◌, List, All, length, map, fold, get_or, arith, inl, inr}
use Rattle.std.proofs.lemmas.Bool.{cases_lt}
use Rattle.std.proofs.lemmas.List.{length-map, get_or-map, get_or_default}
use Rattle.std.proofs.lemmas.Nat.{div-add-mod'}
use Rattle.std.proofs.Math.Nat.{mod-eq_of_lt, mod-one}
use Rattle.rates_model.specs.declared.error.RatesPlace.TheVariants.{AtProcess}
use Rattle.rates_model.specs.declared.parts.RatesProcess.{RatesProcess}
use Rattle.rates_model.specs.Rates.{Rates, no_process, period_of}
use Rattle.rates_model.specs.Cycles.{cycle, jobs_of, least_multiple, periods_of, IsCommonMultiple, IsLeastCommonMultiple}
use Rattle.rates_model.specs.Rules.{AreTicks, IsRates}
use Rattle.rates_model.proofs.Multiples.{fold_above, fold_divides, fold_whole}

-- each period takes a tick at least
pub some_ticks : (ps : List RatesProcess) → ((p : ℕ) → p < length ps → AreTicks (get_or ps p no_process).period) → All (λ p. 0 < p.period) ps
some_ticks ps each = λ k d inside. let ticks = each k inside in rw (get_or_default ps k no_process d inside) at ticks.0

-- what was computed is the cycle
pub cycle_is : (rho : Rates) (n : ℕ) → n ≡ fold least_multiple 1 (map (λ p. p.period) rho.processes) → n ≡ cycle rho
unfolding cycle
cycle_is rho n is = is

pub cycle_past : (rho : Rates) (n : ℕ) → n < fold least_multiple 1 (map (λ p. p.period) rho.processes) → n < cycle rho
unfolding cycle
cycle_past rho n past = past

-- what some number is a whole number of is no greater
whole_le : (h other : ℕ) → 0 < other → other % h ≡ 0 → h ≤ other
whole_le h other some whole = elim (cases_lt other h) [
  | inl lower ↦ absurd (omega (arith, some, whole, mod-eq_of_lt lower))
  | inr past ↦ omega (arith, past)
]

module _ (rho : Rates) (w : IsRates rho) where
  periods_some : All (λ t. 0 < t) (periods_of rho)
  periods_some = λ k d inside.
      let within : k < length rho.processes = omega (arith, inside, length-map rho.processes (λ p. p.period)) in
      let ticks = w.ranges (AtProcess k) within in
      rw (get_or-map (λ p. p.period) rho.processes k no_process d within) ticks.0

  pub cycle_common : IsCommonMultiple (periods_of rho) (cycle rho)
  unfolding cycle
  cycle_common = record { some = omega (arith, fold_above 1 (periods_of rho)); divided = fold_whole 1 (periods_of rho) periods_some }

  pub cycle_least : IsLeastCommonMultiple (periods_of rho) (cycle rho)
  unfolding cycle
  cycle_least = record { common = cycle_common; least = least }
    where
      least : (other : ℕ) → IsCommonMultiple (periods_of rho) other → cycle rho ≤ other
      least other common = whole_le (fold least_multiple 1 (periods_of rho)) other common.some
          (fold_divides 1 (periods_of rho) other periods_some (mod-one other) common.divided)

  period_whole : (p : ℕ) → p < length rho.processes → cycle rho % period_of rho p ≡ 0
  period_whole p inside =
      let there : p < length (periods_of rho) = omega (arith, inside, length-map rho.processes (λ p. p.period)) in
      let whole = cycle_common.divided p 0 there in
      rw (get_or-map (λ p. p.period) rho.processes p no_process 0 inside) at whole

  pub period_some : (p : ℕ) → p < length rho.processes → 0 < period_of rho p
  period_some p inside = (w.ranges (AtProcess p) inside).0

  pub jobs_whole : (p : ℕ) → p < length rho.processes → jobs_of rho p * period_of rho p ≡ cycle rho
  jobs_whole p inside = omega (arith, div-add-mod' (cycle rho) (period_of rho p), period_whole p inside)
