-- Sums over the numbers below a count.
use Rattle.std.specs.Prelude.{ℕ, sum, map}
use Rattle.std.specs.List.{range_with_len}

-- the sum of f at 0, 1 and so on, below the count; 0 at a count of 0
abbrev pub total : (ℕ → ℕ) → ℕ → ℕ
total f count = sum (map f (range_with_len 0 count))
