-- The answers of the private searches for the first place that breaks a rule; no public clause cites these.
use Rattle.std.specs.Prelude.{ℕ, ◌<◌, ◌≤◌, length, Option, None, Some}
use Rattle.rates_model.specs.declared.error.RatesPlace.{RatesPlace}
use Rattle.rates_model.specs.Rates.{Rates, chain_at}
use Rattle.rates_model.specs.Rules.{IsChain, ReadsAt}
use Rattle.rates_model.specs.Refusals.{FailsFirstAt}

-- none means that P holds everywhere
abbrev pub FindsFirst : (RatesPlace → Type 0) → Option RatesPlace → Type 0
FindsFirst P None = (at : RatesPlace) → P at
FindsFirst P (Some at) = FailsFirstAt P at

-- the first place of a chain whose process reads nothing of the one before it
pub record IsUnread (rho : Rates) (c place : ℕ) : Type 0 where
  pub behind : 1 ≤ place
  pub there : place < length (chain_at rho c).through
  pub unread : ¬ ReadsAt rho c place
  pub read_before : (k : ℕ) → 1 ≤ k → k < place → ReadsAt rho c k

-- none means that each reads something
abbrev pub FindsUnread : Rates → ℕ → Option ℕ → Type 0
FindsUnread rho c None = IsChain rho c
FindsUnread rho c (Some place) = IsUnread rho c place
