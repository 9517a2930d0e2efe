-- Slots stand at the same times by all decisions and by the kept ones, where those are kept that they rest on.
use Rattle.std.proofs.Common.{◌≡◌, ℕ, ◌+◌, ◌-◌, ◌*◌, ◌<◌, ◌≤◌, ◌==◌, ◌++◌, List, length, length-append, slice_index, take, sum_by, arith, inl, inr, ap, ap₂, sym, ◌∙◌}
use Rattle.std.proofs.lemmas.List.{take-append-le, get_or-take, length-take}
use Rattle.std.proofs.lemmas.List.Sums.{position_or_len_is, fails_before_first, passes_at_first}
use Rattle.std.proofs.lemmas.Bool.{cases_lt, lt-ltb, le-ltb, both_ways}
use Rattle.ttp_model.specs.Instance.{Instance}
use Rattle.ttp_model.specs.Slots.{slot_duration, nodes_before}
use Rattle.ttp_model.specs.Totals.{total}
use Rattle.ttp_model.proofs.Totals.{list_total, total_same}
use Rattle.tt_choice.specs.Choice.{Choice, IsChoice}
use Rattle.tt_choice.specs.Extremes.{cap_least, cap_most, dur_least, dur_most, place_of, offset_most, start_least, start_most, end_least, end_most}
use Rattle.tt_choice.proofs.Extend.{first_part}

-- a node stands where it stood, in the first part of an order
place_alike : (n : ℕ) (front rest : List ℕ) → place_of n (front ++ rest) ≤ length front → place_of n front ≡ place_of n (front ++ rest)
place_alike n front rest inside = position_or_len_is (λ m. m == n) front (place_of n (front ++ rest)) 0 inside
    (λ k below. rw (← first_part front rest k (omega (arith, below, inside))) (fails_before_first (λ m. m == n) (front ++ rest) k 0 below))
    (λ below. rw (← first_part front rest (place_of n (front ++ rest)) below) (passes_at_first (λ m. m == n) (front ++ rest) 0 (omega (arith, below, length-append front rest))))

before_alike : (n : ℕ) (front rest : List ℕ) → place_of n (front ++ rest) ≤ length front → nodes_before n (front ++ rest) ≡ nodes_before n front
before_alike n front rest inside = take-append-le (place_of n (front ++ rest)) front rest inside ∙ ap (λ (k : ℕ). take k front) (sym (place_alike n front rest inside))

-- sums over nodes of which each is measured alike
sum_alike : (f g : ℕ → ℕ) (count : ℕ) (xs : List ℕ) → ((k : ℕ) → k < length xs → slice_index xs k < count) → ((v : ℕ) → v < count → f v ≡ g v) → sum_by f xs ≡ sum_by g xs
sum_alike f g count xs within same =
    list_total f xs
    ∙ total_same (λ k. f (slice_index xs k)) (λ k. g (slice_index xs k)) (length xs) (λ k h. same (slice_index xs k) (within k h))
    ∙ sym (list_total g xs)

module _ (i : Instance) (c d : Choice) (also : IsChoice i d) (rest : List ℕ) (front : c.prefix ≡ d.prefix ++ rest) where
  -- a place in the first part is one of the whole order
  place_kept : (n : ℕ) → place_of n c.prefix ≤ length d.prefix → place_of n d.prefix ≡ place_of n c.prefix
  place_kept n inside = place_alike n d.prefix rest (rw front at inside) ∙ ap (place_of n) (sym front)

  before_kept : (n : ℕ) → place_of n c.prefix ≤ length d.prefix → nodes_before n c.prefix ≡ nodes_before n d.prefix
  before_kept n inside = ap (nodes_before n) front ∙ before_alike n d.prefix rest (rw front at inside)

  -- a node that isn't in the whole order isn't in its first part
  not_in_front : (n : ℕ) → length c.prefix ≤ place_of n c.prefix → length d.prefix ≤ place_of n d.prefix
  not_in_front n nowhere = elim (cases_lt (place_of n d.prefix) (length d.prefix)) [
    | inr over ↦ over
    | inl here ↦
        let longer : length c.prefix ≡ length d.prefix + length rest = ap length front ∙ length-append d.prefix rest in
        let first : slice_index c.prefix (place_of n d.prefix) ≡ slice_index d.prefix (place_of n d.prefix) = ap (λ (xs : List ℕ). slice_index xs (place_of n d.prefix)) front ∙ first_part d.prefix rest (place_of n d.prefix) here in
        let off = fails_before_first (λ m. m == n) c.prefix (place_of n d.prefix) 0 (omega (arith, nowhere, here, longer)) in
        absurd (both_ways _ off (ap (λ (m : ℕ). m == n) first ∙ passes_at_first (λ m. m == n) d.prefix 0 here))
  ]

  nodes_in_front : (n k : ℕ) → k < length (nodes_before n d.prefix) → slice_index (nodes_before n d.prefix) k < length i.nodes
  nodes_in_front n k below =
      let size = length-take (place_of n d.prefix) d.prefix in
      let is = get_or-take (place_of n d.prefix) d.prefix k 0 (omega (arith, below, size)) in
      rw is (also.nodes k (omega (arith, below, size)))

  module _ (f g : ℕ → ℕ) (same : (v : ℕ) → v < length i.nodes → f v ≡ g v) where
    sum_before : (n : ℕ) → place_of n c.prefix ≤ length d.prefix → sum_by f (nodes_before n c.prefix) ≡ sum_by g (nodes_before n d.prefix)
    sum_before n inside = ap (sum_by f) (before_kept n inside) ∙ sum_alike f g (length i.nodes) (nodes_before n d.prefix) (nodes_in_front n) same

    sum_round : total f (length i.nodes) ≡ total g (length i.nodes)
    sum_round = total_same f g (length i.nodes) same

  module _ (same : (v : ℕ) → v < length i.nodes → cap_least i c v ≡ cap_least i d v) where
    same_least : (v : ℕ) → v < length i.nodes → dur_least i c v ≡ dur_least i d v
    same_least v there = ap (slot_duration i.cluster) (same v there)

    least_start : (n : ℕ) → place_of n c.prefix ≤ length d.prefix → (r : ℕ) → start_least i c n r ≡ start_least i d n r
    least_start n inside r =
        ap₂ (λ (round offset : ℕ). r * round + offset) (sum_round (dur_least i c) (dur_least i d) same_least) (sum_before (dur_least i c) (dur_least i d) same_least n inside)

    pub least_slot_alike : (n : ℕ) → n < length i.nodes → place_of n c.prefix ≤ length d.prefix → (r : ℕ) → (start_least i c n r ≡ start_least i d n r) × (end_least i c n r ≡ end_least i d n r)
    least_slot_alike n there inside r =
        (least_start n inside r, ap₂ (λ (start duration : ℕ). start + duration) (least_start n inside r) (same_least n there))

  module _ (same : (v : ℕ) → v < length i.nodes → cap_most i c v ≡ cap_most i d v) where
    same_most : (v : ℕ) → v < length i.nodes → dur_most i c v ≡ dur_most i d v
    same_most v there = ap (slot_duration i.cluster) (same v there)

    -- the slot of a node that isn't placed comes last
    last_offset : (n : ℕ) → n < length i.nodes → total (dur_most i c) (length i.nodes) - dur_most i c n ≡ total (dur_most i d) (length i.nodes) - dur_most i d n
    last_offset n there = ap₂ (λ (round duration : ℕ). round - duration) (sum_round (dur_most i c) (dur_most i d) same_most) (same_most n there)

    most_offset : (n : ℕ) → n < length i.nodes → (place_of n c.prefix < length c.prefix → place_of n c.prefix < length d.prefix) → offset_most i c n ≡ offset_most i d n
    most_offset n there kept = elim (cases_lt (place_of n c.prefix) (length c.prefix)) [
      | inl placed ↦
          let inside = kept placed in
          let is = place_kept n (omega (arith, inside)) in
          let here : place_of n d.prefix < length d.prefix = omega (arith, is, inside) in
          rw (lt-ltb _ _ placed, lt-ltb _ _ here) (sum_before (dur_most i c) (dur_most i d) same_most n (omega (arith, inside)))
      | inr nowhere ↦
          let over : length d.prefix ≤ place_of n d.prefix = not_in_front n nowhere in
          rw (le-ltb _ _ nowhere, le-ltb _ _ over) (last_offset n there)
    ]

    most_start : (n : ℕ) → n < length i.nodes → (place_of n c.prefix < length c.prefix → place_of n c.prefix < length d.prefix) → (r : ℕ) → start_most i c n r ≡ start_most i d n r
    most_start n there kept r =
        ap₂ (λ (round offset : ℕ). r * round + offset) (sum_round (dur_most i c) (dur_most i d) same_most) (most_offset n there kept)

    pub greatest_slot_alike : (n : ℕ) → n < length i.nodes → (place_of n c.prefix < length c.prefix → place_of n c.prefix < length d.prefix) → (r : ℕ) → (start_most i c n r ≡ start_most i d n r) × (end_most i c n r ≡ end_most i d n r)
    greatest_slot_alike n there kept r =
        (most_start n there kept r, ap₂ (λ (start duration : ℕ). start + duration) (most_start n there kept r) (same_most n there))
