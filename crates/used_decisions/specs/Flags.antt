-- Flags by counts: one is up where its count is the last one. Only the invariant of flags asks for it.
use Rattle.std.specs.Prelude.{ℕ, ◌≤◌, ◌==◌, List, map, Bool, All}

-- whether each flag is up
abbrev pub up_at : ℕ → List ℕ → List Bool
up_at count counts = map (λ (other : ℕ). other == count) counts

-- no count is past the last one, which is there
pub record AreUpTo (count : ℕ) (counts : List ℕ) : Type 0 where
  pub some : 1 ≤ count
  pub within : All (λ (other : ℕ). other ≤ count) counts
