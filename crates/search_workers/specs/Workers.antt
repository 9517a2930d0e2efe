-- How many workers search.
use Rattle.std.specs.Prelude.{ℕ, max, min}

-- as many as are asked for, but no fewer than one and no more than 16
abbrev pub workers_of : ℕ → ℕ
workers_of asked = max 1 (min asked 16)
