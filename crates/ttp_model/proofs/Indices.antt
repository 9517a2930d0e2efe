-- The indices below a count that a test picks: just those, and sums and last times over them.
use Rattle.std.proofs.Common.{◌≡◌, ℕ, zero, suc, ◌+◌, ◌<◌, ◌≤◌, ◌==◌, cond, Bool, true, false, List, [], ◌∷◌, ◌++◌, length, slice_index, slice_index_or, filter, sum_by, take, All, Contains, arith, inl, inr, refl, subst, add-one, sym, ap, ◌∙◌}
use Rattle.std.specs.List.{list_any, range_with_len}
use Rattle.std.proofs.lemmas.Bool.{cases_eq, false≢true}
use Rattle.std.proofs.lemmas.Bool.Decides.{eqb_tells}
use Rattle.std.proofs.lemmas.List.{map-id, get_or_default, take_all}
use Rattle.std.proofs.lemmas.List.FromFn.{map-range_with_len_more, get_or-range_with_len, length-range_with_len}
use Rattle.std.proofs.lemmas.List.Elements.{filter-append, filter_passes, All-filter, All-from_get_or, All-get_or, Contains-append_left, Contains-push}
use Rattle.std.proofs.lemmas.List.Folds.{list_any_at}
use Rattle.std.proofs.lemmas.List.Sums.{sum_by-append, sum_by-cons, length-filter, count_by-le-length}
use Rattle.ttp_model.specs.Totals.{total}
use Rattle.ttp_model.specs.Raising.{IsRaised}
use Rattle.ttp_model.specs.Network.{indices}
use Rattle.ttp_model.proofs.Totals.{total_more}

range_more : (count : ℕ) → range_with_len 0 (count + 1) ≡ range_with_len 0 count ++ count ∷ []
range_more count = simp map-id at (map-range_with_len_more (λ (k : ℕ). k) 0 count count (omega arith))

-- one index more is listed where the test picks it
pub indices_more : (test : ℕ → Bool) (count : ℕ) → indices test (count + 1) ≡ indices test count ++ cond (test count) (count ∷ []) []
indices_more test count = ap (filter test) (range_more count) ∙ filter-append test (range_with_len 0 count) (count ∷ [])

range_inside : (count : ℕ) → All (λ (k : ℕ). k < count) (range_with_len 0 count)
range_inside count = All-from_get_or (λ (k : ℕ). k < count) (range_with_len 0 count) 0 (λ i inside.
    omega (arith, inside, length-range_with_len 0 count, get_or-range_with_len 0 count i 0 (omega (arith, inside, length-range_with_len 0 count))))

pub indices_inside : (test : ℕ → Bool) (count : ℕ) → All (λ (k : ℕ). k < count) (indices test count)
indices_inside test count = All-filter test (λ (k : ℕ). k < count) (range_with_len 0 count) (range_inside count)

-- there are no more than there are numbers
pub length_indices : (test : ℕ → Bool) (count : ℕ) → length (indices test count) ≤ count
length_indices test count =
    omega (arith, length-filter test (range_with_len 0 count), count_by-le-length test (range_with_len 0 count), length-range_with_len 0 count)

-- each of them is picked
pub picked : (test : ℕ → Bool) (count k : ℕ) → k < length (indices test count) → test (slice_index (indices test count) k) ≡ true
picked test count k inside = All-get_or (λ (x : ℕ). test x ≡ true) (indices test count) k 0 inside (filter_passes test (range_with_len 0 count))

-- each that is picked is one of them
pub in_indices : (test : ℕ → Bool) (count k : ℕ) → k < count → test k ≡ true → Contains (indices test count) k
in_indices test zero k inside picks = absurd (omega (arith, inside))
in_indices test (suc count) k inside picks =
    let more = rw add-one at (indices_more test count) in
    elim (cases_eq k count) [
      | inl is ↦
          let last : cond (test count) (count ∷ []) [] ≡ count ∷ [] = rw (ap test (sym is) ∙ picks) refl in
          rw (is, more, last) (Contains-push (indices test count) count)
      | inr other ↦
          rw more (Contains-append_left (indices test count) (cond (test count) (count ∷ []) []) k (in_indices test count k (omega (arith, inside, other)) picks))
    ]

one_term : (f : ℕ → ℕ) (b : Bool) (k : ℕ) → (b ≡ false → f k ≡ 0) → sum_by f (cond b (k ∷ []) []) ≡ f k
one_term f true k none = omega (arith, sum_by-cons f k [])
one_term f false k none = sym (none refl)

-- a sum over all numbers is one over those that a test picks, where all other terms are nothing
pub total_selected : (f : ℕ → ℕ) (test : ℕ → Bool) (count : ℕ) → ((k : ℕ) → k < count → test k ≡ false → f k ≡ 0) → sum_by f (indices test count) ≡ total f count
total_selected f test zero none = refl
total_selected f test (suc count) none =
    let rest = total_selected f test count (λ k below. none k (omega (arith, below))) in
    let more = rw add-one at (indices_more test count) in
    let split = sum_by-append f (indices test count) (cond (test count) (count ∷ []) []) in
    let last = one_term f (test count) count (none count (omega arith)) in
    omega (arith, rest, ap (sum_by f) more, split, last, total_more f count)

-- the same of a list that was summed up to its end
pub total_listed : (f : ℕ → ℕ) (test : ℕ → Bool) (count : ℕ) (list : List ℕ) (k sum : ℕ) → ((x : ℕ) → x < count → test x ≡ false → f x ≡ 0) → list ≡ indices test count → length list ≤ k → sum ≡ sum_by f (take k list) → sum ≡ total f count
total_listed f test count list k sum none is done summed =
    summed ∙ ap (sum_by f) (take_all k list done ∙ is) ∙ total_selected f test count none

-- a time was raised to the last of all times, where it was raised to the last of those that a test picks
pub raised_selected : (P : ℕ → Type 0) (time_of : ℕ → ℕ) (floor : ℕ) (test : ℕ → Bool) (count time : ℕ) → ((k : ℕ) → k < count → P k → test k ≡ true) → IsRaised (length (indices test count)) (λ (j : ℕ). P (slice_index (indices test count) j)) (λ (j : ℕ). time_of (slice_index (indices test count) j)) floor time → IsRaised count P time_of floor time
raised_selected P time_of floor test count time picks raised = record {
  least = raised.least;
  each = λ k inside holds.
      let found = in_indices test count k inside (picks k inside holds) in
      let is : slice_index (indices test count) found.0 ≡ k = get_or_default (indices test count) found.0 0 k found.1 ∙ found.2 in
      rw is at (raised.each found.0 found.1 (subst P (sym is) holds));
  met = elim raised.met [
    | inl same ↦ inl same
    | inr at ↦ inr (slice_index (indices test count) at.0, All-get_or (λ (k : ℕ). k < count) (indices test count) at.0 0 at.1 (indices_inside test count), at.2)
  ];
}

-- the same of a list that was seen to its end
pub raised_listed : (P : ℕ → Type 0) (time_of : ℕ → ℕ) (floor : ℕ) (test : ℕ → Bool) (count time k : ℕ) (list : List ℕ) → ((x : ℕ) → x < count → P x → test x ≡ true) → list ≡ indices test count → k ≤ length list → length list ≤ k → IsRaised k (λ (j : ℕ). P (slice_index list j)) (λ (j : ℕ). time_of (slice_index list j)) floor time → IsRaised count P time_of floor time
raised_listed P time_of floor test count time k list picks is within done raised =
    let all : k ≡ length list = omega (arith, within, done) in
    let whole : IsRaised (length list) (λ (j : ℕ). P (slice_index list j)) (λ (j : ℕ). time_of (slice_index list j)) floor time = rw all at raised in
    raised_selected P time_of floor test count time picks (subst (λ (xs : List ℕ). IsRaised (length xs) (λ (j : ℕ). P (slice_index xs j)) (λ (j : ℕ). time_of (slice_index xs j)) floor time) is whole)

-- what a list has, and the test of it
pub Contains-from_any : (xs : List ℕ) (q : ℕ) → list_any (λ (r : ℕ). r == q) xs ≡ true → Contains xs q
Contains-from_any [] q some = absurd (false≢true some)
Contains-from_any (x ∷ xs) q some = elim (eqb_tells x q) [
  | inl is ↦ (0, omega arith, is.1)
  | inr other ↦
      let rest = Contains-from_any xs q (rw other.0 at some) in
      (suc rest.0, omega (arith, rest.1), rest.2)
]

pub any_from_Contains : (xs : List ℕ) (q : ℕ) → Contains xs q → list_any (λ (r : ℕ). r == q) xs ≡ true
any_from_Contains xs q at =
    let here : (slice_index_or xs at.0 q == q) ≡ true = elim (eqb_tells (slice_index_or xs at.0 q) q) [ inl is ↦ is.0 | inr other ↦ absurd (other.1 at.2) ] in
    list_any_at (λ (r : ℕ). r == q) xs at.0 q at.1 here
