-- Sums over the numbers below a count.
use Rattle.std.proofs.Common.{◌≡◌, ◌≢◌, ℕ, zero, suc, ◌+◌, ◌*◌, ◌<◌, ◌≤◌, ◌==◌, if◌then◌else◌, List, [], ◌∷◌, length, slice_index, take, sum_by, arith, inl, inr, refl, add-one, one-add, sym, ap}
use Rattle.std.specs.List.{before_first}
use Rattle.std.proofs.lemmas.List.FromFn.{sum_by-map-range_with_len_more}
use Rattle.std.proofs.Math.Seq.{take-length}
use Rattle.std.proofs.lemmas.List.Sums.{sum_by-cons, sum_by_more}
use Rattle.std.proofs.lemmas.Bool.{cases_eq}
use Rattle.std.proofs.lemmas.Bool.Decides.{eqb_tells}
use Rattle.ttp_model.specs.Lists.{HasNoRepeats}
use Rattle.ttp_model.specs.Totals.{total}

pub total_next : (f : ℕ → ℕ) (count : ℕ) → total f (count + 1) ≡ total f count + f count
total_next f count = sum_by-map-range_with_len_more (λ x. x) f 0 count count (omega arith)

pub total_more : (f : ℕ → ℕ) (count : ℕ) → total f (suc count) ≡ total f count + f count
total_more f count = rw add-one at (total_next f count)

pub total_le : (f g : ℕ → ℕ) (count : ℕ) → ((k : ℕ) → k < count → f k ≤ g k) → total f count ≤ total g count
total_le f g zero h = omega arith
total_le f g (suc count) h =
    let rest = total_le f g count (λ k below. h k (omega arith)) in
    let last = h count (omega arith) in
    omega (arith, total_more f count, total_more g count, rest, last)

pub total_same : (f g : ℕ → ℕ) (count : ℕ) → ((k : ℕ) → k < count → f k ≡ g k) → total f count ≡ total g count
total_same f g count h =
    let up = total_le f g count (λ k lt. omega (arith, h k lt)) in
    let down = total_le g f count (λ k lt. omega (arith, h k lt)) in
    omega (arith, up, down)

pub total_longer : (f : ℕ → ℕ) (j k : ℕ) → j ≤ k → total f j ≤ total f k
total_longer f j zero le = let same : j ≡ 0 = omega arith in omega (arith, ap (total f) same)
total_longer f j (suc k) le = elim (cases_eq j (suc k)) [
  | inl same ↦ omega (arith, ap (total f) same)
  | inr other ↦ omega (arith, total_more f k, total_longer f j k (omega (arith, other)))
]

-- one term is another, and all others are the same
pub total_one_place : (f g : ℕ → ℕ) (count x : ℕ) → x < count → ((k : ℕ) → k < count → k ≢ x → f k ≡ g k) → total f count + g x ≡ total g count + f x
total_one_place f g zero x h others = absurd (omega arith)
total_one_place f g (suc count) x h others = elim (cases_eq count x) [
  | inl same ↦
      let rest = total_same f g count (λ k lt. others k (omega arith) (omega (arith, same))) in
      omega (arith, rest, ap f same, ap g same, total_more f count, total_more g count)
  | inr other ↦
      let rest = total_one_place f g count x (omega (arith, other)) (λ k lt. others k (omega arith)) in
      omega (arith, rest, others count (omega arith) other, total_more f count, total_more g count)
]

-- two terms are others
pub total_two_places : (f g : ℕ → ℕ) (count x y : ℕ) → x < y → y < count → ((k : ℕ) → k < count → k ≢ x → k ≢ y → f k ≡ g k) → total f count + (g x + g y) ≡ total g count + (f x + f y)
total_two_places f g zero x y less h others = absurd (omega arith)
total_two_places f g (suc count) x y less h others = elim (cases_eq count y) [
  | inl same ↦
      let rest = total_one_place f g count x (omega (arith, less, same)) (λ k lt not_x. others k (omega arith) not_x (omega (arith, same))) in
      omega (arith, rest, ap f same, ap g same, total_more f count, total_more g count)
  | inr other ↦
      let rest = total_two_places f g count x y less (omega (arith, other)) (λ k lt. others k (omega arith)) in
      omega (arith, rest, others count (omega arith) (omega (arith, h, less)) other, total_more f count, total_more g count)
]

-- one term is one less, and all others are the same
pub total_one_less : (f g : ℕ → ℕ) (count x : ℕ) → x < count → ((k : ℕ) → k < count → k ≢ x → f k ≡ g k) → f x + 1 ≡ g x → total f count + 1 ≡ total g count
total_one_less f g count x h others here = omega (arith, total_one_place f g count x h others, here)

-- one term is less, and no other is more
pub total_less : (f g : ℕ → ℕ) (count x : ℕ) → x < count → ((k : ℕ) → k < count → f k ≤ g k) → f x < g x → total f count < total g count
total_less f g zero x h each here = absurd (omega arith)
total_less f g (suc count) x h each here = elim (cases_eq count x) [
  | inl same ↦
      let rest = total_le f g count (λ k lt. each k (omega arith)) in
      omega (arith, rest, here, ap f same, ap g same, total_more f count, total_more g count)
  | inr other ↦
      let rest = total_less f g count x (omega (arith, other)) (λ k lt. each k (omega arith)) here in
      let last = each count (omega arith) in
      omega (arith, rest, last, total_more f count, total_more g count)
]

-- so many terms, none of them above a bound
pub total_bound : (f : ℕ → ℕ) (bound count : ℕ) → ((k : ℕ) → k < count → f k ≤ bound) → total f count ≤ count * bound
total_bound f bound zero h = omega arith
total_bound f bound (suc count) h =
    let rest = total_bound f bound count (λ k lt. h k (omega arith)) in
    let last = h count (omega arith) in
    omega (arith, rest, last, total_more f count)

-- a sum is zero where each term is
pub total_zero : (f : ℕ → ℕ) (count : ℕ) → total f count ≡ 0 → (k : ℕ) → k < count → f k ≡ 0
total_zero f zero h k lt = absurd (omega arith)
total_zero f (suc count) h k lt = elim (cases_eq k count) [
  | inl same ↦ omega (arith, h, total_more f count, ap f same)
  | inr other ↦ total_zero f count (omega (arith, h, total_more f count)) k (omega (arith, other))
]

-- a sum that is shared out
pub total_shared : (f g h : ℕ → ℕ) (count : ℕ) → ((k : ℕ) → k < count → f k ≤ g k + h k) → total f count ≤ total g count + total h count
total_shared f g h zero part = omega arith
total_shared f g h (suc count) part =
    let rest = total_shared f g h count (λ k below. part k (omega arith)) in
    let last = part count (omega arith) in
    omega (arith, total_more f count, total_more g count, total_more h count, rest, last)

pub total_none : (f : ℕ → ℕ) (count : ℕ) → ((k : ℕ) → k < count → f k ≡ 0) → total f count ≡ 0
total_none f zero h = refl
total_none f (suc count) h =
    let rest = total_none f count (λ k below. h k (omega arith)) in
    let last = h count (omega arith) in
    omega (arith, total_more f count, rest, last)

-- one term is nothing
without : ℕ → (ℕ → ℕ) → ℕ → ℕ
without x f k = if k == x then 0 else f k

without_here : (x : ℕ) (f : ℕ → ℕ) → without x f x ≡ 0
unfolding without
without_here x f = elim (eqb_tells x x) [ inl is ↦ rw is.0 refl | inr other ↦ absurd (other.1 refl) ]

without_other : (x : ℕ) (f : ℕ → ℕ) (k : ℕ) → k ≢ x → without x f k ≡ f k
unfolding without
without_other x f k differ = elim (eqb_tells k x) [ inl is ↦ absurd (differ is.1) | inr other ↦ rw other.0 refl ]

total_without : (x : ℕ) (f : ℕ → ℕ) (count : ℕ) → x < count → total (without x f) count + f x ≡ total f count
total_without x f count h = omega (arith, total_one_place (without x f) f count x h (λ k lt. without_other x f k), without_here x f)

pub term_in_total : (f : ℕ → ℕ) (count k : ℕ) → k < count → f k ≤ total f count
term_in_total f count k h = omega (arith, total_without k f count h)

-- sums over lists, as sums over their places
pub take_total : (f : ℕ → ℕ) (xs : List ℕ) (j : ℕ) → j ≤ length xs → sum_by f (take j xs) ≡ total (λ k. f (slice_index xs k)) j
take_total f xs zero h = refl
take_total f xs (suc j) h =
    let rest = take_total f xs j (omega arith) in
    let more = rw add-one at (sum_by_more f xs j 0 (omega arith)) in
    omega (arith, rest, more, total_more (λ k. f (slice_index xs k)) j)

pub list_total : (f : ℕ → ℕ) (xs : List ℕ) → sum_by f xs ≡ total (λ k. f (slice_index xs k)) (length xs)
list_total f xs = rw take-length at (take_total f xs (length xs) (omega arith))

-- what stands in a list of different numbers adds up to at most the whole sum
pub part_of_total : (f : ℕ → ℕ) (count : ℕ) (xs : List ℕ) → ((k : ℕ) → k < length xs → slice_index xs k < count) → HasNoRepeats xs → sum_by f xs ≤ total f count
part_of_total f count [] within once = omega arith
part_of_total f count (x ∷ xs) within once =
    let rest = part_of_total (without x f) count xs (λ k below. within (suc k) (omega arith)) (λ j k lt below same. once (suc j) (suc k) (omega arith) (omega arith) same) in
    let here : x < count = within 0 (omega arith) in
    let same : sum_by f xs ≡ sum_by (without x f) xs = unchanged xs (λ k below is. once 0 (suc k) (omega arith) (omega arith) (sym is)) in
    omega (arith, sum_by-cons f x xs, total_without x f count here, rest, same)
  where
    unchanged : (ys : List ℕ) → ((k : ℕ) → k < length ys → slice_index ys k ≢ x) → sum_by f ys ≡ sum_by (without x f) ys
    unchanged [] off = refl
    unchanged (y ∷ ys) off =
        let tail = unchanged ys (λ k below. off (suc k) (omega arith)) in
        let head = without_other x f y (off 0 (omega arith)) in
        omega (arith, sum_by-cons f y ys, sum_by-cons (without x f) y ys, tail, head)

-- the sum before the first n, from an element that is another
pub before_other : (f : ℕ → ℕ) (n m : ℕ) (xs : List ℕ) → m ≢ n → sum_by f (before_first (λ k. k == n) (m ∷ xs)) ≡ f m + sum_by f (before_first (λ k. k == n) xs)
before_other f n m xs other = elim (eqb_tells m n) [
  | inl same ↦ absurd (other same.1)
  | inr differ ↦ rw (differ.0, one-add) (sum_by-cons f m (before_first (λ k. k == n) xs))
]
