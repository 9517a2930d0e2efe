-- Whether a number is one of a list, by a test and by its place.
use Rattle.std.proofs.Common.{◌≡◌, ℕ, zero, suc, ◌<◌, true, List, [], ◌∷◌, length, slice_index, slice_index_or, All, subst, arith, inl, inr, refl}
use Rattle.std.proofs.lemmas.Bool.Decides.{eqb_tells}
use Rattle.instance_variants.specs.Cut.{is_one_of}

-- one more is asked first
first : (q p : ℕ) (ps : List ℕ) → q ≡ p → is_one_of (q ∷ ps) p ≡ true
first q p ps same = elim (eqb_tells q p) [ inl is ↦ rw is.0 refl | inr other ↦ absurd (other.1 same) ]

-- it is another, and what comes behind it is asked
behind : (q p : ℕ) (ps : List ℕ) → is_one_of ps p ≡ true → is_one_of (q ∷ ps) p ≡ true
behind q p ps is = elim (eqb_tells q p) [ inl same ↦ rw same.0 refl | inr other ↦ rw other.0 is ]

-- what stands at a place is one of them
pub one_of_place : (ps : List ℕ) (k d : ℕ) → k < length ps → is_one_of ps (slice_index_or ps k d) ≡ true
one_of_place [] k d h = absurd (omega arith)
one_of_place (q ∷ ps) zero d h = first q q ps refl
one_of_place (q ∷ ps) (suc k) d h = behind q (slice_index_or ps k d) ps (one_of_place ps k d (omega arith))

-- what is one of them stands at a place
place_of : (ps : List ℕ) (p : ℕ) → is_one_of ps p ≡ true → (k : ℕ) × (k < length ps) × (slice_index ps k ≡ p)
place_of [] p is = absurd cc
place_of (q ∷ ps) p is = elim (eqb_tells q p) [
  | inl same ↦ (0, omega arith, same.1)
  | inr other ↦ (let rest = place_of ps p (rw other.0 at is) in (suc rest.0, omega (arith, rest.1), rest.2))
]

-- so what holds of each holds of it
pub of_each : (P : ℕ → Type 0) (ps : List ℕ) (p : ℕ) → All P ps → is_one_of ps p ≡ true → P p
of_each P ps p each is = let at = place_of ps p is in subst P at.2 (each at.0 0 at.1)
