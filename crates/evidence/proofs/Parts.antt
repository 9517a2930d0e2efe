-- A part of a part is a part, and so is what an element gives of what a list gives.
use Rattle.std.proofs.Common.{◌≡◌, ℕ, zero, suc, ◌<◌, List, [], ◌∷◌, ◌++◌, Contains, length, slice_index_or, arith, refl, append_assoc, zero-add, ◌∙◌}
use Rattle.std.specs.List.{flat_map, range_with_len}
use Rattle.std.proofs.lemmas.List.FromFn.{get_or-range_with_len, length-range_with_len}
use Rattle.evidence.specs.Parts.{IsPartOf}

pub within : (part middle whole : List ℕ) → IsPartOf part middle → IsPartOf middle whole → IsPartOf part whole
within part middle whole inner outer = (outer.0 ++ inner.0, inner.1 ++ outer.1, rw (outer.2, inner.2) (simp append_assoc))

-- where a text begins with the part
pub first : (part rest : List ℕ) → IsPartOf part (part ++ rest)
first part rest = ([], rest, refl)

-- where a part is in the beginning
pub sooner : (part front rest : List ℕ) → IsPartOf part front → IsPartOf part (front ++ rest)
sooner part front rest inner = (inner.0, inner.1 ++ rest, rw inner.2 (simp append_assoc))

-- where it is behind that
pub later : (part front rest : List ℕ) → IsPartOf part rest → IsPartOf part (front ++ rest)
later part front rest inner = (front ++ inner.0, inner.1, rw inner.2 (simp append_assoc))

pub element : {X : Type 0} (f : X → List ℕ) (xs : List X) (x : X) → Contains xs x → IsPartOf (f x) (flat_map f xs)
element {X} f xs x there = at xs there.0 there.1 there.2
  where
    at : (ys : List X) (k : ℕ) → k < length ys → slice_index_or ys k x ≡ x → IsPartOf (f x) (flat_map f ys)
    at [] k inside is = absurd (omega arith)
    at (y ∷ ys) zero inside is = ([], flat_map f ys, rw is refl)
    at (y ∷ ys) (suc k) inside is =
        let rest = at ys k (omega (arith, inside)) is in
        (f y ++ rest.0, rest.1, rw rest.2 (simp append_assoc))

-- what a number below a count gives
pub numbered : (f : ℕ → List ℕ) (count k : ℕ) → k < count → IsPartOf (f k) (flat_map f (range_with_len 0 count))
numbered f count k inside =
    element f (range_with_len 0 count) k (k, omega (arith, inside, length-range_with_len 0 count), get_or-range_with_len 0 count k k inside ∙ zero-add k)
