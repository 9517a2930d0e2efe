-- Which chain a name means, and in which cluster its age may be as great as can be said.
use Rattle.std.specs.Prelude.{◌≡◌, ◌≢◌, ℕ, ◌<◌, List, length}
use Rattle.ttp_model.specs.Limits.{most_ticks}
use Rattle.ttp_model.specs.Lists.{EachBelow}
use Rattle.rates_model.specs.Rates.{Rates, chain_at}
use Rattle.endless_schedules.specs.Bounds.{with_age}

-- chain x has this name
pub record HasName (rho : Rates) (name : List ℕ) (x : ℕ) : Type 0 where
  pub there : x < length rho.chains
  pub same : (chain_at rho x).name ≡ name

-- no chain has
abbrev pub NamesNone : Rates → List ℕ → Type 0
NamesNone rho name = EachBelow (length rho.chains) (λ x. (chain_at rho x).name ≢ name)

-- the cluster in which what chain x carries may be as old as a text can say
abbrev pub loose : Rates → ℕ → Rates
loose rho x = with_age rho x most_ticks
