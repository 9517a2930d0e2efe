-- Whose value a job at the end of a chain carries. Jobs are counted from the first cycle on, so that none is before it.
use Rattle.std.specs.Prelude.{◌≡◌, ℕ, List, [], ◌∷◌}
use Rattle.rates_model.specs.Rates.{Rates}
use Rattle.rates_model.specs.Reads.{Reads}
use Rattle.rates_model.specs.Ages.{wait_of}

-- Job j of the last of these processes carries a value of job k of the first: from each to the next it was read, by the oldest way.
abbrev pub Carries : Rates → List ℕ → ℕ → ℕ → Type 0
Carries rho [] j k = ⊥
Carries rho (p ∷ []) j k = j ≡ k
Carries rho (p ∷ q ∷ ps) j k = (i : ℕ) × Carries rho (q ∷ ps) j i × Reads rho p q (wait_of rho p q) i k
