-- A prefix of different nodes is the beginning of an order of all nodes.
use Rattle.std.proofs.Common.{◌≡◌, ◌≢◌, ℕ, zero, suc, ◌+◌, ◌<◌, ◌≤◌, ◌==◌, if◌then◌else◌, false, List, [], ◌∷◌, ◌++◌, length, length-append, slice_index, arith, inl, inr, refl, subst, ◌∙◌, sym, append_assoc}
use Rattle.std.specs.List.{list_any}
use Rattle.std.proofs.lemmas.Bool.{cases_Bool, cases_eq, cases_lt, eq-eqb, both_ways}
use Rattle.std.proofs.lemmas.Bool.Decides.{eqb_tells}
use Rattle.std.proofs.lemmas.List.Folds.{list_any_at}
use Rattle.std.proofs.lemmas.List.{append-nil}
use Rattle.std.proofs.lemmas.Grind.{common_steps}
use Rattle.ttp_model.specs.Lists.{HasNoRepeats}
use Rattle.ttp_model.specs.Plans.{IsNodeOrder}
use Rattle.ttp_model.specs.Totals.{total}
use Rattle.ttp_model.proofs.Orders.{different_few}
use Rattle.ttp_model.proofs.Totals.{total_more, total_shared, total_none}

-- 1 where k is in the list
unfoldable pub held : List ℕ → ℕ → ℕ
held xs k = if list_any (λ m. m == k) xs then 1 else 0

-- 1 at x alone
single : ℕ → ℕ → ℕ
single x k = if x == k then 1 else 0

single_at : (x k : ℕ) → x ≢ k → single x k ≡ 0
unfolding single
single_at x k differ = elim (eqb_tells x k) [ inl same ↦ absurd (differ same.1) | inr other ↦ rw other.0 refl ]

single_le : (x k : ℕ) → single x k ≤ 1
unfolding single
single_le x k = elim (eqb_tells x k) [ inl same ↦ rw same.0 (omega arith) | inr other ↦ rw other.0 (omega arith) ]

single_total : (x count : ℕ) → total (single x) count ≤ 1
single_total x zero = omega arith
single_total x (suc count) = elim (cases_eq x count) [
  | inl same ↦
      let none = total_none (single x) count (λ k lt. single_at x k (omega arith)) in
      omega (arith, total_more (single x) count, none, single_le x count)
  | inr other ↦ omega (arith, total_more (single x) count, single_total x count, single_at x count other)
]

held_more : (x : ℕ) (xs : List ℕ) (k : ℕ) → held (x ∷ xs) k ≤ held xs k + single x k
unfolding held single
held_more x xs k = elim (eqb_tells x k) [
  | inl same ↦ rw same.0 (omega arith)
  | inr other ↦ rw other.0 (omega arith)
]

pub held_total : (xs : List ℕ) (count : ℕ) → total (held xs) count ≤ length xs
unfolding held
held_total [] count = let none = total_none (held []) count (λ k lt. refl) in omega (arith, none)
held_total (x ∷ xs) count =
    let shared = total_shared (held (x ∷ xs)) (held xs) (single x) count (λ k lt. held_more x xs k) in
    omega (arith, shared, held_total xs count, single_total x count)

-- fewer numbers than the count leave one out
pub missing : (count : ℕ) (xs : List ℕ) → length xs < count → (k : ℕ) × (k < count) × (list_any (λ m. m == k) xs ≡ false)
unfolding held
missing count xs few = find count (omega (arith, held_total xs count))
  where
    find : (upto : ℕ) → total (held xs) upto < upto → (k : ℕ) × (k < upto) × (list_any (λ m. m == k) xs ≡ false)
    find zero h = absurd (omega arith)
    find (suc upto) h = elim (cases_Bool (list_any (λ m. m == upto) xs)) [
      | inl is ↦
          let one : held xs upto ≡ 1 = rw is refl in
          let rest = find upto (omega (arith, h, one, total_more (held xs) upto)) in
          (rest.0, omega (arith, rest.1), rest.2)
      | inr is ↦ (upto, omega arith, is)
    ]

pub off : (k : ℕ) (xs : List ℕ) → list_any (λ m. m == k) xs ≡ false → (j : ℕ) → j < length xs → slice_index xs j ≢ k
off k xs none j h same = both_ways _ none (list_any_at (λ m. m == k) xs j 0 h (eq-eqb _ _ same))

pub first_part : (xs ys : List ℕ) (j : ℕ) → j < length xs → slice_index (xs ++ ys) j ≡ slice_index xs j
first_part xs ys j h = grind (arith, common_steps)

pub last_part : (xs : List ℕ) (y : ℕ) (j : ℕ) → j ≡ length xs → slice_index (xs ++ y ∷ []) j ≡ y
last_part xs y j h = grind (arith, common_steps)

unfoldable pub AreNodes : ℕ → List ℕ → Type 0
AreNodes count xs = ((k : ℕ) → k < length xs → slice_index xs k < count) × HasNoRepeats xs

pub from_parts : (count : ℕ) (xs : List ℕ) → ((k : ℕ) → k < length xs → slice_index xs k < count) → HasNoRepeats xs → AreNodes count xs
unfolding AreNodes
from_parts count xs within once = (within, once)

pub one_more : (count : ℕ) (xs : List ℕ) (y : ℕ) → AreNodes count xs → y < count → ((j : ℕ) → j < length xs → slice_index xs j ≢ y) → AreNodes count (xs ++ y ∷ [])
unfolding AreNodes
one_more count xs y nodes inside new = (within, once)
  where
    long : length (xs ++ y ∷ []) ≡ length xs + 1
    long = length-append xs (y ∷ [])

    within : (k : ℕ) → k < length (xs ++ y ∷ []) → slice_index (xs ++ y ∷ []) k < count
    within k h = elim (cases_lt k (length xs)) [
      | inl below ↦ omega (arith, first_part xs (y ∷ []) k below, nodes.0 k below)
      | inr end ↦ omega (arith, last_part xs y k (omega (arith, end, h, long)), inside)
    ]

    once : HasNoRepeats (xs ++ y ∷ [])
    once j k lt h = elim (cases_lt k (length xs)) [
      | inl below ↦ λ same. nodes.1 j k lt below (sym (first_part xs (y ∷ []) j (omega (arith, lt, below))) ∙ same ∙ first_part xs (y ∷ []) k below)
      | inr end ↦
          let there : j < length xs = omega (arith, lt, h, long) in
          λ same. new j there (sym (first_part xs (y ∷ []) j there) ∙ same ∙ last_part xs y k (omega (arith, end, h, long)))
    ]

pub order_of : (count : ℕ) (xs : List ℕ) → AreNodes count xs → length xs ≡ count → IsNodeOrder count xs
unfolding AreNodes
order_of count xs nodes all = record {
  all = all;
  each = λ k h. record { node = nodes.0 k (omega (arith, all)); first = λ j lt. nodes.1 j k lt (omega (arith, all)) };
}

pub extend : (more count : ℕ) (xs : List ℕ) → length xs + more ≡ count → AreNodes count xs → (rest : List ℕ) × IsNodeOrder count (xs ++ rest)
extend zero count xs all nodes = ([], subst (IsNodeOrder count) (sym (append-nil xs)) (order_of count xs nodes (omega arith)))
extend (suc more) count xs all nodes =
    let new = missing count xs (omega arith) in
    let rest = extend more count (xs ++ new.0 ∷ []) (omega (arith, length-append xs (new.0 ∷ []))) (one_more count xs new.0 nodes new.1 (off new.0 xs new.2)) in
    (new.0 ∷ rest.0, subst (IsNodeOrder count) (append_assoc xs (new.0 ∷ []) rest.0) rest.1)

-- different numbers below a count are at most so many
pub length_le : (count : ℕ) (xs : List ℕ) → AreNodes count xs → length xs ≤ count
unfolding AreNodes
length_le count xs nodes = different_few count xs nodes.0 nodes.1
