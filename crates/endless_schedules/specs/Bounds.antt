-- The same cluster with another bound on the age of a chain, and the least age that the chain can have.
use Rattle.std.specs.Prelude.{ℕ, ◌≤◌, slice_set}
use Rattle.ttp_model.specs.declared.plan.Plan.{Plan}
use Rattle.ttp_model.specs.Plans.{IsValid}
use Rattle.rates_model.specs.Rates.{Rates, chain_at}
use Rattle.endless_schedules.specs.Unrolled.{unrolled}
use Rattle.endless_schedules.specs.Ages.{IsAge}

-- the cluster in which what chain x carries may be so old; all else is as it was
abbrev pub with_age : Rates → ℕ → ℕ → Rates
with_age rho x age = record rho { chains = slice_set rho.chains x (record (chain_at rho x) { age = age }) }

-- no valid plan has a lesser age of chain x
abbrev pub IsLowerAge : Rates → ℕ → ℕ → Type 0
IsLowerAge rho x low = (plan : Plan) (age : ℕ) → IsValid (unrolled rho) plan → IsAge rho plan (chain_at rho x) age → low ≤ age

-- some valid plan has this age of chain x, and none a lesser one
pub record IsLeastAge (rho : Rates) (x least : ℕ) : Type 0 where
  pub plan : Plan
  pub valid : IsValid (unrolled rho) plan
  pub reached : IsAge rho plan (chain_at rho x) least
  pub bound : IsLowerAge rho x least
