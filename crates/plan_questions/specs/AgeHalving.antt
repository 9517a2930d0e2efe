-- How instances are cut by the age that a chain may have. Private contracts alone cite this.
use Rattle.std.specs.Prelude.{◌≡◌, ℕ, ◌<◌, ◌≤◌, length, min}
use Rattle.ttp_model.specs.declared.plan.Plan.{Plan}
use Rattle.ttp_model.specs.Rules.{IsInstance}
use Rattle.ttp_model.specs.Plans.{IsValid}
use Rattle.rates_model.specs.Rates.{Rates, chain_at}
use Rattle.rates_model.specs.Rules.{IsRates}
use Rattle.endless_schedules.specs.Unrolled.{unrolled}
use Rattle.endless_schedules.specs.Ages.{IsAge}
use Rattle.endless_schedules.specs.Aging.{aged, own_age, window_age}
use Rattle.plan_questions.specs.Cuts.{Cutting}

-- the instance in which what the chain carries may be so old, as far as it may, plans by the age of the chain, and one that none is below
abbrev pub age_cutting : Rates → ℕ → (low most : ℕ) → Cutting
age_cutting rho x low most = record { at = λ age. aged rho x (min age most); measure = own_age rho x; least = low; most = most }

-- no age in a valid plan is 0
abbrev pub TakeTicks : Type 0
TakeTicks = (rho : Rates) (plan : Plan) (x age : ℕ) → IsRates rho → IsInstance (unrolled rho) → x < length rho.chains → IsValid (unrolled rho) plan
    → IsAge rho plan (chain_at rho x) age → 1 ≤ age

-- what is known before a search
pub record IsAsked (rho : Rates) (x low most : ℕ) : Type 0 where
  pub rules : IsRates rho
  pub instance : IsInstance (unrolled rho)
  pub there : x < length rho.chains
  pub window : low ≡ window_age rho x
  pub bound : most ≡ (chain_at rho x).age
  pub fits : low ≤ most
  pub ticks : TakeTicks
