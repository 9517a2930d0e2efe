-- The nodes that aren't placed: which they are, and how many.
use Rattle.std.proofs.Common.{◌≡◌, ℕ, zero, suc, ◌-◌, ◌<◌, ◌==◌, not, if◌then◌else◌, List, [], ◌∷◌, length, slice_index, slice_index_or, filter, sum_by, Contains, Bool, true, arith, inl, inr, refl, sym, ap, ◌∙◌}
use Rattle.std.specs.List.{range_with_len, list_any}
use Rattle.std.proofs.lemmas.Bool.{false≢true, cases_Bool, not-true, not_from_false, false_from_ne_true, or_cases, eqb-true, eq-eqb}
use Rattle.std.proofs.lemmas.List.Elements.{filter_passes, All-filter}
use Rattle.std.proofs.lemmas.List.Filters.{length-filter_both}
use Rattle.std.proofs.lemmas.List.Sums.{length-filter, sum-map, sum_by-cons}
use Rattle.std.proofs.lemmas.List.Folds.{list_any_at}
use Rattle.std.proofs.lemmas.List.FromFn.{length-range_with_len, get_or-range_with_len}
use Rattle.std.proofs.lemmas.Grind.{get_or_default_zero}
use Rattle.ttp_model.specs.Instance.{Instance}
use Rattle.ttp_model.specs.Plans.{IsNodeOrder}
use Rattle.ttp_model.specs.Totals.{total}
use Rattle.ttp_model.proofs.Totals.{part_of_total}
use Rattle.tt_choice.specs.Choice.{Choice, BeginsWith, IsChoice}
use Rattle.tt_choice.specs.Branches.{is_placed, IsUnplaced, unplaced}
use Rattle.tt_choice.proofs.Extend.{held, held_total}

-- what passes stays in a filter
Contains-filter : (p : ℕ → Bool) (xs : List ℕ) (x : ℕ) → p x ≡ true → Contains xs x → Contains (filter p xs) x
Contains-filter p [] x passes is = absurd (omega (arith, is.1))
Contains-filter p (y ∷ ys) x passes (zero, inside, here) = rw (ap p here ∙ passes) (0, omega arith, here)
Contains-filter p (y ∷ ys) x passes (suc k, inside, here) =
    let rest = Contains-filter p ys x passes (k, omega arith, here) in
    elim (cases_Bool (p y)) [
      | inl kept ↦ rw kept (suc rest.0, omega (arith, rest.1), rest.2)
      | inr dropped ↦ rw dropped rest
    ]

range_has : (count n : ℕ) → n < count → Contains (range_with_len 0 count) n
range_has count n h = (n, omega (arith, h, length-range_with_len 0 count), omega (arith, get_or-range_with_len 0 count n n h))

range_below : (count k d : ℕ) → k < length (range_with_len 0 count) → slice_index_or (range_with_len 0 count) k d < count
range_below count k d h =
    let inside : k < count = omega (arith, h, length-range_with_len 0 count) in
    omega (arith, get_or-range_with_len 0 count k d inside, inside)

-- each that is listed is unplaced
pub IsUnplaced-listed : (i : Instance) (c : Choice) (k : ℕ) → k < length (unplaced i c) → IsUnplaced i c (slice_index (unplaced i c) k)
IsUnplaced-listed i c k h = record {
  node = All-filter (λ n. not (is_placed c n)) (λ n. n < length i.nodes) (range_with_len 0 (length i.nodes)) (λ j d lt. range_below (length i.nodes) j d lt) k 0 h;
  new = not-true _ (filter_passes (λ n. not (is_placed c n)) (range_with_len 0 (length i.nodes)) k 0 h);
}

-- each that is unplaced is listed
pub unplaced_place : (i : Instance) (c : Choice) (n : ℕ) → IsUnplaced i c n → (k : ℕ) × (k < length (unplaced i c)) × (slice_index (unplaced i c) k ≡ n)
unplaced_place i c n is =
    let there = Contains-filter (λ m. not (is_placed c m)) (range_with_len 0 (length i.nodes)) n (not_from_false _ is.new) (range_has (length i.nodes) n is.node) in
    (there.0, there.1, sym (get_or_default_zero (unplaced i c) there.0 n there.1) ∙ there.2)

placed_at : (n : ℕ) (xs : List ℕ) → list_any (λ m. m == n) xs ≡ true → (k : ℕ) × (k < length xs) × (slice_index xs k ≡ n)
placed_at n [] is = absurd (false≢true is)
placed_at n (x ∷ xs) is = elim (or_cases (x == n) (list_any (λ m. m == n) xs) is) [
  | inl here ↦ (0, omega arith, eqb-true x n here)
  | inr later ↦ let rest = placed_at n xs later in (suc rest.0, omega (arith, rest.1), rest.2)
]

-- the node that an order has after the prefix is unplaced
pub IsUnplaced-next : (i : Instance) (c : Choice) (order : List ℕ) → IsNodeOrder (length i.nodes) order → BeginsWith c.prefix order → length c.prefix < length i.nodes → IsUnplaced i c (slice_index order (length c.prefix))
IsUnplaced-next i c order nodes begins some = record {
  node = (nodes.each (length c.prefix) some).node;
  new = false_from_ne_true _ (λ placed.
      let there = placed_at (slice_index order (length c.prefix)) c.prefix placed in
      (nodes.each (length c.prefix) some).first there.0 there.1 (begins there.0 there.1 ∙ there.2));
}

count_below : (p : ℕ → Bool) (count : ℕ) → length (filter p (range_with_len 0 count)) ≡ total (λ k. if p k then 1 else 0) count
count_below p count = length-filter p (range_with_len 0 count) ∙ sym (sum-map (λ k. if p k then 1 else 0) (range_with_len 0 count))

-- the prefix has each of its nodes once
held_all : (xs : List ℕ) (ys : List ℕ) → ((k : ℕ) → k < length ys → list_any (λ m. m == slice_index ys k) xs ≡ true) → sum_by (held xs) ys ≡ length ys
unfolding held
held_all xs [] all = refl
held_all xs (y ∷ ys) all =
    let rest = held_all xs ys (λ k h. all (suc k) (omega arith)) in
    let first : held xs y ≡ 1 = rw (all 0 (omega arith)) refl in
    omega (arith, rest, first, sum_by-cons (held xs) y ys)

pub length-unplaced : (i : Instance) (c : Choice) → IsChoice i c → length (unplaced i c) ≡ length i.nodes - length c.prefix
unfolding held
length-unplaced i c ok =
    let xs = c.prefix in
    let both = length-filter_both (is_placed c) (λ n. not (is_placed c n)) (λ n. refl) (range_with_len 0 (length i.nodes)) in
    let placed : length (filter (is_placed c) (range_with_len 0 (length i.nodes))) ≡ total (held c.prefix) (length i.nodes) = count_below (is_placed c) (length i.nodes) in
    let most = held_total c.prefix (length i.nodes) in
    let all = held_all c.prefix c.prefix (λ k h. list_any_at (λ m. m == slice_index c.prefix k) c.prefix k 0 h (eq-eqb _ _ refl)) in
    let least = part_of_total (held c.prefix) (length i.nodes) c.prefix ok.nodes ok.once in
    omega (arith, both, placed, most, all, least, length-range_with_len 0 (length i.nodes), ok.few)
