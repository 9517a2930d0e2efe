-- One more test in a table of which processes go before which.
use Rattle.std.proofs.Common.{◌≡◌, ◌≢◌, ℕ, ◌+◌, ◌*◌, ◌<◌, ◌≤◌, ◌⊎◌, ◌&&◌, nat_lt, length, slice_index_or, Bool, true, false, IsTrue, IsFalse, arith, inl, inr, refl, sym, ◌∙◌, get_or-set_other, get_or-set_same}
use Rattle.std.proofs.lemmas.Bool.{cases_lt, cases_eq, lt-ltb, le-ltb, and_parts, ltb-true, and_left, and_right}
use Rattle.std.proofs.lemmas.Nat.{mul-add-lt, same_from_place}
use Rattle.std.proofs.lemmas.List.{get_or-replicate}
use Rattle.tt_choice.specs.Precedence.{Precedence, place_in, goes_before, nothing_before, put_before}

-- where both are there, the answer is the test
pub test_of : (b : Precedence) (p q : ℕ) → p < b.processes → q < b.processes → goes_before b p q ≡ slice_index_or b.tests (place_in b p q) false
test_of b p q first second = rw (lt-ltb p b.processes first, lt-ltb q b.processes second) refl

-- where one isn't there, the answer is no
pub none_of : (b : Precedence) (p q : ℕ) → (b.processes ≤ p) ⊎ (b.processes ≤ q) → goes_before b p q ≡ false
none_of b p q (inl over) = rw (le-ltb p b.processes over) refl
none_of b p q (inr over) = rw (le-ltb q b.processes over) (and_left _ _ (and_right (nat_lt p b.processes) false refl))

pub place_inside : (b : Precedence) (p q : ℕ) → p < b.processes → q < b.processes → place_in b p q < b.processes * b.processes
place_inside b p q first second = mul-add-lt p b.processes q b.processes first second

pub put_same : (b : Precedence) (p q : ℕ) → p < b.processes → q < b.processes → length b.tests ≡ b.processes * b.processes → goes_before (put_before b p q) p q ≡ true
put_same b p q first second size =
    let inside : place_in b p q < length b.tests = omega (arith, size, place_inside b p q first second) in
    rw (lt-ltb p b.processes first, lt-ltb q b.processes second) (get_or-set_same b.tests (place_in b p q) true false inside)

pub put_other : (b : Precedence) (p q j k : ℕ) → p < b.processes → q < b.processes → (j ≢ p) ⊎ (k ≢ q) → goes_before (put_before b p q) j k ≡ goes_before b j k
put_other b p q j k first second other = elim (cases_lt j b.processes) [
  | inl row ↦ elim (cases_lt k b.processes) [
    | inl column ↦
        let apart : place_in b j k ≢ place_in b p q = λ same. differ (same_from_place j k p q b.processes column second same) other in
        rw (lt-ltb j b.processes row, lt-ltb k b.processes column) (get_or-set_other b.tests (place_in b p q) (place_in b j k) true false apart)
    | inr over ↦ rw (le-ltb k b.processes over) (both_no (nat_lt j b.processes) _ _)
  ]
  | inr over ↦ rw (le-ltb j b.processes over) refl
]
  where
    differ : (j ≡ p) × (k ≡ q) → (j ≢ p) ⊎ (k ≢ q) → ⊥
    differ same (inl row) = row same.0
    differ same (inr column) = column same.1

    both_no : (x y z : Bool) → ((x && false) && y) ≡ ((x && false) && z)
    both_no x y z = rw (and_right x false refl) refl

-- an answer of holds is given of processes that are there
pub there_of : (b : Precedence) (p q : ℕ) → IsTrue (goes_before b p q) → (p < b.processes) × (q < b.processes)
there_of b p q holds =
    let both = and_parts _ _ holds in
    let tests = and_parts _ _ both.0 in
    (ltb-true _ _ tests.0, ltb-true _ _ tests.1)

pub nothing_goes : (count p q : ℕ) → IsFalse (goes_before (nothing_before count) p q)
nothing_goes count p q = elim (cases_lt p count) [
  | inl row ↦ elim (cases_lt q count) [
    | inl column ↦ rw (lt-ltb p count row, lt-ltb q count column) (get_or-replicate (count * count) (p * count + q) false false (mul-add-lt p count q count row column))
    | inr over ↦ none_of (nothing_before count) p q (inr over)
  ]
  | inr over ↦ none_of (nothing_before count) p q (inl over)
]

-- what a table says after one more test
pub put_kept : (b : Precedence) (p q j k : ℕ) → p < b.processes → q < b.processes → length b.tests ≡ b.processes * b.processes → IsTrue (goes_before b j k) → IsTrue (goes_before (put_before b p q) j k)
put_kept b p q j k first second size holds = elim (cases_eq j p) [
  | inr row ↦ put_other b p q j k first second (inl row) ∙ holds
  | inl same_row ↦ elim (cases_eq k q) [
    | inr column ↦ put_other b p q j k first second (inr column) ∙ holds
    | inl same_column ↦ rw (same_row, same_column) (put_same b p q first second size)
  ]
]

pub put_only : (b : Precedence) (p q j k : ℕ) → p < b.processes → q < b.processes → IsTrue (goes_before (put_before b p q) j k) → IsTrue (goes_before b j k) ⊎ ((j ≡ p) × (k ≡ q))
put_only b p q j k first second holds = elim (cases_eq j p) [
  | inr row ↦ inl (sym (put_other b p q j k first second (inl row)) ∙ holds)
  | inl same_row ↦ elim (cases_eq k q) [
    | inr column ↦ inl (sym (put_other b p q j k first second (inr column)) ∙ holds)
    | inl same_column ↦ inr (same_row, same_column)
  ]
]
