-- Least multiples: which they are, that they are whole periods, and that a fold of them is some whole number of each.
use Rattle.std.proofs.Common.{◌≡◌, ◌≢◌, ◌∙◌, ℕ, zero, suc, ◌+◌, ◌-◌, ◌*◌, ◌/◌, ◌%◌, ◌<◌, ◌≤◌, ◌==◌, true, false, not, List, [], ◌∷◌, ◌++◌, All, length, fold, map, take, drop, get_or, slice_index, arith, sym, ap, zero-add, subst, inl, inr}
use Rattle.std.specs.List.{range_with_len, position_or_len, prefix_len}
use Rattle.std.proofs.lemmas.Bool.{cases_lt, false≢true, ne_eqb, eq-eqb, eqb-true}
use Rattle.std.proofs.lemmas.Nat.{mod_below, mul-mod_first}
use Rattle.std.proofs.lemmas.List.{take_more, map-append}
use Rattle.std.proofs.lemmas.List.FromFn.{length-range_with_len, get_or-range_with_len}
use Rattle.std.proofs.lemmas.List.Sums.{position_or_len_is, passes_at_first, prefix_len-le-length, prefix_len_passes, fold-append}
use Rattle.std.proofs.Math.ListN.{take-append-drop}
use Rattle.std.proofs.Math.Nat.{add_comm, mul-mod_left, mul-le-mul_left, zero-mod, zero-mul, lt-div-mul-add, mul-div-le, mul_comm, mul_assoc, mul-add, mul-add-mod_self_left, mul-mod_right, div-add-mod, add-mul, one-mul}
use Rattle.rates_model.specs.Cycles.{least_times, least_multiple}

least_times_some : (h t : ℕ) → 1 ≤ least_times h t
unfolding least_times
least_times_some h t = omega arith

-- of times h the first that is some whole number of periods t
module _ (h t : ℕ) (some : 0 < t) where
  fails_at : (k : ℕ) → k < t - 1 → h * (k + 1) % t ≢ 0 → (h * (slice_index (range_with_len 0 (t - 1)) k + 1) % t == 0) ≡ false
  fails_at k lt other = rw (get_or-range_with_len 0 (t - 1) k 0 lt, zero-add) (ne_eqb (h * (k + 1) % t) 0 other)

  passes_at : (k : ℕ) → k < t - 1 → h * (k + 1) % t ≡ 0 → (h * (slice_index (range_with_len 0 (t - 1)) k + 1) % t == 0) ≡ true
  passes_at k lt same = rw (get_or-range_with_len 0 (t - 1) k 0 lt, zero-add) (eq-eqb (h * (k + 1) % t) 0 same)

  tried_count : length (range_with_len 0 (t - 1)) ≡ t - 1
  tried_count = length-range_with_len 0 (t - 1)

  -- so many periods of h ticks are whole, whatever is tried
  pub whole_at_last : h * (t - 1 + 1) % t ≡ 0
  whole_at_last = let last : t - 1 + 1 ≡ t = omega (arith, some) in rw last (mul-mod_left h t)

  -- the first that was found is the least
  pub least_times_is : (k : ℕ) → h * (k + 1) % t ≡ 0 → ((i : ℕ) → i < k → h * (i + 1) % t ≢ 0) → least_times h t ≡ k + 1
  unfolding least_times
  least_times_is k whole before = elim (cases_lt k t) [
    | inl lt ↦
        let at : position_or_len (λ j. h * (j + 1) % t == 0) (range_with_len 0 (t - 1)) ≡ k =
        position_or_len_is (λ j. h * (j + 1) % t == 0) (range_with_len 0 (t - 1)) k 0 (omega (arith, tried_count, lt))
        (λ i below. fails_at i (omega (arith, below, lt)) (before i below))
        (λ below. passes_at k (omega (arith, tried_count, below)) whole) in
        omega (arith, at)
    | inr past ↦ absurd (before (t - 1) (omega (arith, past, some)) whole_at_last)
  ]

  passed : (first : ℕ) → first < t - 1 → (h * (slice_index (range_with_len 0 (t - 1)) first + 1) % t == 0) ≡ true → h * (first + 1) % t ≡ 0
  passed first lt is = eqb-true (h * (first + 1) % t) 0 (rw (get_or-range_with_len 0 (t - 1) first 0 lt, zero-add) at is)

  bounded : (first : ℕ) → first ≤ t - 1 → (first < t - 1 → h * (first + 1) % t ≡ 0) → h * (first + 1) % t ≡ 0
  bounded first few before = elim (cases_lt first (t - 1)) [
    | inl lt ↦ before lt
    | inr past ↦ let last : t - 1 ≡ first = omega (arith, few, past) in rw last at whole_at_last
  ]

  -- the least is whole
  pub least_times_whole : h * least_times h t % t ≡ 0
  unfolding least_times
  least_times_whole =
      let tests = λ (j : ℕ). h * (j + 1) % t == 0 in
      let tried : List ℕ = range_with_len 0 (t - 1) in
      let few : position_or_len tests tried ≤ t - 1 = omega (arith, prefix_len-le-length (λ (j : ℕ). not (tests j)) tried, tried_count) in
      let whole : h * (position_or_len tests tried + 1) % t ≡ 0 =
      bounded (position_or_len tests tried) few (λ lt. passed (position_or_len tests tried) lt (passes_at_first tests tried 0 (omega (arith, lt, tried_count)))) in
      subst (λ (n : ℕ). h * n % t ≡ 0) (add_comm (position_or_len tests tried) 1) whole

  -- and none before it
  pub least_times_before : (i : ℕ) → i + 1 < least_times h t → h * (i + 1) % t ≢ 0
  unfolding least_times
  least_times_before i lt whole =
      let tests = λ (j : ℕ). h * (j + 1) % t == 0 in
      let tried : List ℕ = range_with_len 0 (t - 1) in
      let below : i < prefix_len (λ (j : ℕ). not (tests j)) tried = omega (arith, lt) in
      let few : i < t - 1 = omega (arith, below, prefix_len-le-length (λ (j : ℕ). not (tests j)) tried, tried_count) in
      let fails : not (tests (slice_index tried i)) ≡ true = prefix_len_passes (λ (j : ℕ). not (tests j)) tried i 0 below in
      let no : not true ≡ true = rw (passes_at i few whole) at fails in
      false≢true no

  -- and where none of so many is, it is a greater one
  pub least_times_past : (n : ℕ) → ((i : ℕ) → i < n → h * (i + 1) % t ≢ 0) → n < least_times h t
  least_times_past n before = elim (cases_lt n (least_times h t)) [
    | inl lt ↦ lt
    | inr past ↦
        let first : ℕ = least_times h t - 1 in
        let above : 1 ≤ least_times h t = least_times_some h t in
        let same : first + 1 ≡ least_times h t = omega (arith, above) in
        absurd (before first (omega (arith, above, past)) (rw same least_times_whole))
  ]

-- ---- least multiples

-- more times than a number holds are above it
div_past : (most h : ℕ) → 0 < h → most < h * (most / h + 1)
div_past most h some =
    let turned : h * (most / h + 1) ≡ most / h * h + h = mul_comm h (most / h + 1) ∙ add-mul (most / h) 1 h ∙ ap (λ n. most / h * h + n) (one-mul h) in
    omega (arith, turned, lt-div-mul-add {a = most} {b = h} some)

pub least_multiple_is : (h t k : ℕ) → 0 < t → h * (k + 1) % t ≡ 0 → ((i : ℕ) → i < k → h * (i + 1) % t ≢ 0) → h * (k + 1) ≡ least_multiple h t
unfolding least_multiple
least_multiple_is h t k some whole before = ap (λ n. h * n) (sym (least_times_is h t some k whole before))

-- so many times as a number holds are within it
pub times_within : (h k most : ℕ) → k < most / h → h * (k + 1) ≤ most
times_within h k most lt =
    let few : k + 1 ≤ most / h = omega (arith, lt) in
    let times : h * (k + 1) ≤ h * (most / h) = mul-le-mul_left h few in
    omega (arith, times, mul-div-le most h)

-- beyond so many times
pub least_multiple_past : (h t n most : ℕ) → 0 < h → 0 < t → most / h ≤ n → ((i : ℕ) → i < n → h * (i + 1) % t ≢ 0) → most < least_multiple h t
unfolding least_multiple
least_multiple_past h t n most some positive at_least before =
    let over : most / h + 1 ≤ least_times h t = omega (arith, least_times_past h t positive n before, at_least) in
    let times : h * (most / h + 1) ≤ h * least_times h t = mul-le-mul_left h over in
    omega (arith, times, div_past most h some)

pub least_multiple-le : (h t : ℕ) → h ≤ least_multiple h t
unfolding least_multiple
least_multiple-le h t =
    let times : h * 1 ≤ h * least_times h t = mul-le-mul_left h (least_times_some h t) in
    omega (arith, times)

pub least_multiple_whole : (h t : ℕ) → 0 < t → least_multiple h t % t ≡ 0
unfolding least_multiple
least_multiple_whole h t some = least_times_whole h t some

-- what h is a whole number of, a multiple of it is
pub least_multiple_kept : (h t d : ℕ) → h % d ≡ 0 → least_multiple h t % d ≡ 0
unfolding least_multiple
least_multiple_kept h t d whole =
    sym (mul-mod_first h (least_times h t) d) ∙ rw whole (ap (λ n. n % d) (zero-mul (least_times h t)) ∙ zero-mod d)

-- ---- a least multiple divides all others

-- what is left of times h behind whole numbers of l times is whole periods, where l times are and all are
rest_whole : (h t l x : ℕ) → h * l % t ≡ 0 → h * x % t ≡ 0 → h * (x % l) % t ≡ 0
rest_whole h t l x step whole =
    let y : ℕ = h * l / t * (x / l) in
    let steps : t * (h * l / t) ≡ h * l = omega (arith, div-add-mod (h * l) t, step) in
    let times : h * (l * (x / l)) ≡ t * y = sym (mul_assoc h l (x / l)) ∙ ap (λ n. n * (x / l)) (sym steps) ∙ mul_assoc t (h * l / t) (x / l) in
    let spread : h * x ≡ t * y + h * (x % l) =
    ap (λ n. h * n) (sym (div-add-mod x l)) ∙ mul-add h (l * (x / l)) (x % l) ∙ ap (λ n. n + h * (x % l)) times in
    sym (mul-add-mod_self_left t y (h * (x % l))) ∙ ap (λ n. n % t) (sym spread) ∙ whole

-- so no rest is left
no_rest : (h t x : ℕ) → 0 < t → h * x % t ≡ 0 → x % least_times h t ≡ 0
no_rest h t x some whole =
    let rest : ℕ = x % least_times h t in
    let left : h * rest % t ≡ 0 = rest_whole h t (least_times h t) x (least_times_whole h t some) whole in
    elim (cases_lt 0 rest) [
      | inl above ↦
          let same : rest - 1 + 1 ≡ rest = omega (arith, above) in
          let below : rest < least_times h t = mod_below x (least_times h t) (least_times_some h t) in
          absurd (least_times_before h t some (rest - 1) (omega (arith, same, below)) (rw same left))
      | inr none ↦ omega (arith, none)
    ]

least_multiple_divides : (h t m : ℕ) → 0 < t → m % h ≡ 0 → m % t ≡ 0 → m % least_multiple h t ≡ 0
unfolding least_multiple
least_multiple_divides h t m some by_h by_t =
    let times : h * (m / h) ≡ m = omega (arith, div-add-mod m h, by_h) in
    let none : m / h % least_times h t ≡ 0 = no_rest h t (m / h) some (rw times by_t) in
    let parts : least_times h t * (m / h / least_times h t) ≡ m / h = omega (arith, div-add-mod (m / h) (least_times h t), none) in
    let whole : h * least_times h t * (m / h / least_times h t) ≡ m = mul_assoc h (least_times h t) (m / h / least_times h t) ∙ ap (λ n. h * n) parts ∙ times in
    ap (λ n. n % (h * least_times h t)) (sym whole) ∙ mul-mod_right (h * least_times h t) (m / h / least_times h t)

-- ---- folds of least multiples

pub fold_above : (h : ℕ) (ts : List ℕ) → h ≤ fold least_multiple h ts
fold_above h [] = omega arith
fold_above h (t ∷ ts) = omega (arith, least_multiple-le h t, fold_above (least_multiple h t) ts)

fold_kept : (h d : ℕ) (ts : List ℕ) → h % d ≡ 0 → fold least_multiple h ts % d ≡ 0
fold_kept h d [] whole = whole
fold_kept h d (t ∷ ts) whole = fold_kept (least_multiple h t) d ts (least_multiple_kept h t d whole)

cons_whole : (n t : ℕ) (ts : List ℕ) → n % t ≡ 0 → All (λ u. n % u ≡ 0) ts → (k d : ℕ) → k < length (t ∷ ts) → n % get_or (t ∷ ts) k d ≡ 0
cons_whole n t ts first rest zero d inside = first
cons_whole n t ts first rest (suc k) d inside = rest k d (omega (arith, inside))

-- some whole number of each
pub fold_whole : (h : ℕ) (ts : List ℕ) → All (λ t. 0 < t) ts → All (λ t. fold least_multiple h ts % t ≡ 0) ts
fold_whole h [] each = λ k d inside. absurd (omega (arith, inside))
fold_whole h (t ∷ ts) each =
    let rest = fold_whole (least_multiple h t) ts (λ j e within. each (suc j) e (omega (arith, within))) in
    λ k d inside. cons_whole (fold least_multiple (least_multiple h t) ts) t ts (fold_kept (least_multiple h t) t ts (least_multiple_whole h t (each 0 0 (omega arith)))) rest k d inside

-- what is some whole number of each is one of their fold
pub fold_divides : (h : ℕ) (ts : List ℕ) (m : ℕ) → All (λ t. 0 < t) ts → m % h ≡ 0 → All (λ t. m % t ≡ 0) ts → m % fold least_multiple h ts ≡ 0
fold_divides h [] m each by_h by_all = by_h
fold_divides h (t ∷ ts) m each by_h by_all =
    fold_divides (least_multiple h t) ts m (λ j e within. each (suc j) e (omega (arith, within)))
    (least_multiple_divides h t m (each 0 0 (omega arith)) by_h (by_all 0 0 (omega arith))) (λ j e within. by_all (suc j) e (omega (arith, within)))

-- one period more
module _ {X : Type 0} (period : X → ℕ) (xs : List X) (i : ℕ) (x : X) (within : i < length xs) (here : x ≡ get_or xs i x) where
  pub fold_more : fold least_multiple 1 (map period (take (i + 1) xs)) ≡ least_multiple (fold least_multiple 1 (map period (take i xs))) (period x)
  fold_more =
      ap (fold least_multiple 1) (ap (map period) (take_more xs i x within ∙ ap (λ y. take i xs ++ y ∷ []) (sym here)) ∙ map-append period (take i xs) (x ∷ []))
      ∙ fold-append least_multiple 1 (map period (take i xs)) (period x ∷ [])

  -- all are at least that
  pub fold_from : least_multiple (fold least_multiple 1 (map period (take i xs))) (period x) ≤ fold least_multiple 1 (map period xs)
  fold_from =
      let split : fold least_multiple 1 (map period xs) ≡ fold least_multiple (fold least_multiple 1 (map period (take (i + 1) xs))) (map period (drop (i + 1) xs)) =
      ap (λ ys. fold least_multiple 1 (map period ys)) (sym (take-append-drop (i + 1) xs))
      ∙ ap (fold least_multiple 1) (map-append period (take (i + 1) xs) (drop (i + 1) xs))
      ∙ fold-append least_multiple 1 (map period (take (i + 1) xs)) (map period (drop (i + 1) xs)) in
      let above = fold_above (fold least_multiple 1 (map period (take (i + 1) xs))) (map period (drop (i + 1) xs)) in
      rw (sym split, fold_more) at above
