-- The last of many times, as they are seen one after another. Private contracts alone cite it.
use Rattle.std.specs.Prelude.{◌≡◌, ℕ, ◌<◌, ◌≤◌, ◌⊎◌}

-- a time was raised, from a floor, to the last of those below a count for which P holds
pub record IsRaised (count : ℕ) (P : ℕ → Type 0) (time_of : ℕ → ℕ) (floor time : ℕ) : Type 0 where
  pub least : floor ≤ time
  pub each : (k : ℕ) → k < count → P k → time_of k ≤ time
  pub met : (time ≡ floor) ⊎ ((k : ℕ) × (k < count) × (P k × (time_of k ≡ time)))
