-- The numbers below a count, and one more.
use Rattle.std.proofs.Common.{◌≡◌, ℕ, ◌+◌, [], ◌∷◌, ◌++◌, zero-add}
use Rattle.std.specs.List.{range_with_len}
use Rattle.std.proofs.lemmas.List.{map-id}
use Rattle.std.proofs.lemmas.List.FromFn.{map-range_with_len_more}

pub range_more : (n : ℕ) → range_with_len 0 (n + 1) ≡ range_with_len 0 n ++ n ∷ []
range_more n = rw (map-id (range_with_len 0 (n + 1)), map-id (range_with_len 0 n)) at (map-range_with_len_more (λ (k : ℕ). k) 0 n n (zero-add n))
