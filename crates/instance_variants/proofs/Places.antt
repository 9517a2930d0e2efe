-- The places that a test picks, in their order: each is larger than those before it, and where each stands is how many are before it.
use Rattle.std.proofs.Common.{◌≡◌, ℕ, zero, suc, ◌<◌, ◌≤◌, Bool, true, false, List, [], ◌∷◌, ◌++◌, length, slice_index, arith, inl, inr, add-one, refl, sym, ap, ◌∙◌}
use Rattle.std.proofs.lemmas.Bool.{cases_eq, cases_Bool}
use Rattle.std.proofs.lemmas.List.{get_or_append_left, get_or_push, length_push, append-nil}
use Rattle.std.proofs.lemmas.List.Elements.{All-get_or}
use Rattle.ttp_model.specs.Network.{indices}
use Rattle.ttp_model.specs.Totals.{total}
use Rattle.ttp_model.proofs.Totals.{total_more, total_longer}
use Rattle.ttp_model.proofs.Indices.{indices_more, indices_inside}

pub place_inside : (test : ℕ → Bool) (count k : ℕ) → k < length (indices test count) → slice_index (indices test count) k < count
place_inside test count k inside = All-get_or (λ (x : ℕ). x < count) (indices test count) k 0 inside (indices_inside test count)

pub one_picked : (test : ℕ → Bool) (count : ℕ) → test count ≡ true → indices test (suc count) ≡ indices test count ++ count ∷ []
one_picked test count is = rw is at (rw add-one at (indices_more test count))

none_picked : (test : ℕ → Bool) (count : ℕ) → test count ≡ false → indices test (suc count) ≡ indices test count
none_picked test count is = let more = rw is at (rw add-one at (indices_more test count)) in more ∙ append-nil (indices test count)

-- behind one place more those of before stand as they did
before_one : (xs : List ℕ) (x k : ℕ) → k < length xs → slice_index (xs ++ x ∷ []) k ≡ slice_index xs k
before_one xs x k inside = get_or_append_left xs (x ∷ []) 0 k inside

rising_with : (xs : List ℕ) (x a b : ℕ) → ((k : ℕ) → k < length xs → slice_index xs k < x) → ((j k : ℕ) → j < k → k < length xs → slice_index xs j < slice_index xs k) →
    a < b → b < length (xs ++ x ∷ []) → slice_index (xs ++ x ∷ []) a < slice_index (xs ++ x ∷ []) b
rising_with xs x a b below rising less inside =
    let long = length_push xs x in
    elim (cases_eq b (length xs)) [
      | inl is ↦
          let here : a < length xs = omega (arith, less, is) in
          omega (arith, before_one xs x a here, get_or_push xs x 0 b (sym is), below a here)
      | inr other ↦
          let there : b < length xs = omega (arith, inside, long, other) in
          omega (arith, before_one xs x a (omega (arith, less, there)), before_one xs x b there, rising a b less there)
    ]

pub places_rising : (test : ℕ → Bool) (count a b : ℕ) → a < b → b < length (indices test count) → slice_index (indices test count) a < slice_index (indices test count) b
places_rising test zero a b less inside = absurd (omega (arith, inside))
places_rising test (suc count) a b less inside = elim (cases_Bool (test count)) [
  | inl is ↦
      let more = one_picked test count is in
      rw more (rising_with (indices test count) count a b (place_inside test count) (λ j k. places_rising test count j k) less (rw more at inside))
  | inr is ↦ let same = none_picked test count is in rw same (places_rising test count a b less (rw same at inside))
]

-- how many places are before one
pub before : (ℕ → Bool) → ℕ → ℕ
before test k = length (indices test k)

-- a place stands behind as many as are before it
pub stands_behind : (test : ℕ → Bool) (count k : ℕ) → k < count → test k ≡ true → (before test k < length (indices test count)) × (slice_index (indices test count) (before test k) ≡ k)
unfolding before
stands_behind test zero k inside picks = absurd (omega (arith, inside))
stands_behind test (suc count) k inside picks = elim (cases_eq k count) [
  | inl is ↦
      let more = one_picked test count (rw is at picks) in
      rw (is, more) (omega (arith, length_push (indices test count) count), get_or_push (indices test count) count 0 (length (indices test count)) refl)
  | inr other ↦
      let rest = stands_behind test count k (omega (arith, inside, other)) picks in
      elim (cases_Bool (test count)) [
        | inl more ↦
            rw (one_picked test count more) (omega (arith, length_push (indices test count) count, rest.0), before_one (indices test count) count (before test k) rest.0 ∙ rest.1)
        | inr same ↦ rw (none_picked test count same) rest
      ]
]

-- of two places the later one stands behind more
pub before_rising : (test : ℕ → Bool) (j k : ℕ) → j < k → test j ≡ true → before test j < before test k
unfolding before
before_rising test j k less picks = (stands_behind test k j less picks).0

-- what stands at rising numbers below a count adds up to at most the sum below it
pub total_of_some : (f place : ℕ → ℕ) (n count : ℕ) → ((k : ℕ) → k < n → place k < count) → ((j k : ℕ) → j < k → k < n → place j < place k) → total (λ k. f (place k)) n ≤ total f count
total_of_some f place zero count inside rising = omega arith
total_of_some f place (suc n) count inside rising =
    let rest = total_of_some f place n (place n) (λ k below. rising k n below (omega arith)) (λ j k less below. rising j k less (omega (arith, below))) in
    let last = inside n (omega arith) in
    omega (arith, rest, total_more (λ k. f (place k)) n, total_more f (place n), total_longer f (suc (place n)) count (omega (arith, last)))

-- where more are picked, they are no fewer
pub picked_more : (test other : ℕ → Bool) (count : ℕ) → ((k : ℕ) → test k ≡ true → other k ≡ true) → length (indices test count) ≤ length (indices other count)
picked_more test other zero more = omega arith
picked_more test other (suc count) more =
    let rest = picked_more test other count more in
    elim (cases_Bool (test count)) [
      | inl is ↦
          let here = ap length (one_picked test count is) ∙ length_push (indices test count) count in
          let there = ap length (one_picked other count (more count is)) ∙ length_push (indices other count) count in
          omega (arith, rest, here, there)
      | inr not ↦
          let here = ap length (none_picked test count not) in
          elim (cases_Bool (other count)) [
            | inl is ↦ omega (arith, rest, here, ap length (one_picked other count is) ∙ length_push (indices other count) count)
            | inr same ↦ omega (arith, rest, here, ap length (none_picked other count same))
          ]
    ]
