-- What is made of the places of a list whose flags are set, one place more.
use Rattle.std.proofs.Common.{◌≡◌, ℕ, ◌+◌, Bool, true, false, List, [], ◌∷◌, ◌++◌, map, ap, refl, arith}
use Rattle.std.specs.List.{range_with_len}
use Rattle.std.proofs.lemmas.List.FromFn.{map-range_with_len_more}
use Rattle.std.proofs.lemmas.List.{map-append, append-nil, append_assoc}
use Rattle.ttp_model.specs.Network.{indices}
use Rattle.ttp_model.proofs.Indices.{indices_more}

pub set_more : {X : Type 0} (f : ℕ → X) (test : ℕ → Bool) (k : ℕ) → test k ≡ true → map f (indices test (k + 1)) ≡ map f (indices test k) ++ f k ∷ []
set_more f test k is = rw (indices_more test k, is) (map-append f (indices test k) (k ∷ []))

pub unset_more : {X : Type 0} (f : ℕ → X) (test : ℕ → Bool) (k : ℕ) → test k ≡ false → map f (indices test (k + 1)) ≡ map f (indices test k)
unset_more f test k is = rw (indices_more test k, is) (ap (map f) (append-nil (indices test k)))

pub set_behind : {X : Type 0} (xs : List X) (f : ℕ → X) (test : ℕ → Bool) (k : ℕ) → test k ≡ true →
    xs ++ map f (indices test (k + 1)) ≡ xs ++ map f (indices test k) ++ f k ∷ []
set_behind xs f test k is = rw (set_more f test k is, append_assoc) refl

pub unset_behind : {X : Type 0} (xs : List X) (f : ℕ → X) (test : ℕ → Bool) (k : ℕ) → test k ≡ false →
    xs ++ map f (indices test (k + 1)) ≡ xs ++ map f (indices test k)
unset_behind xs f test k is = ap (λ ys. xs ++ ys) (unset_more f test k is)

pub each_more : {X : Type 0} (f : ℕ → X) (k : ℕ) → map f (range_with_len 0 (k + 1)) ≡ map f (range_with_len 0 k) ++ f k ∷ []
each_more f k = map-range_with_len_more f 0 k k (omega arith)
