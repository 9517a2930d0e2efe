-- The slots of an order one after another, in a round and from round to round.
use Rattle.std.proofs.Common.{◌≡◌, ℕ, ◌+◌, ◌*◌, ◌<◌, ◌≤◌, ◌⊎◌, ◌==◌, false, true, List, length, slice_index, take, sum_by, arith, refl, inl, inr, ap}
use Rattle.std.proofs.Math.Nat.{mul-le-mul_left}
use Rattle.std.proofs.lemmas.Bool.Decides.{eqb_tells}
use Rattle.std.proofs.lemmas.List.{take-take}
use Rattle.std.proofs.lemmas.List.Sums.{position_or_len_is, sum_by_more, sum_by_more_le, sum_by-take-le}
use Rattle.ttp_model.specs.declared.parts.Cluster.{Cluster}
use Rattle.ttp_model.specs.Plans.{IsNodeOrder}
use Rattle.ttp_model.specs.Slots.{duration, nodes_before, offset, round_length, slot_duration, slot_end, slot_start}
use Rattle.ttp_model.proofs.Totals.{list_total, part_of_total}

-- before the node at a position of the order stand those of the lesser positions
pub nodes_before-at : (count : ℕ) (order : List ℕ) (k : ℕ) → IsNodeOrder count order → k < length order → nodes_before (slice_index order k) order ≡ take k order
nodes_before-at count order k o inside = ap (λ i. take i order) (position_or_len_is (λ m. m == slice_index order k) order k 0 (omega arith) others (λ _. here))
  where
    others : (j : ℕ) → j < k → (slice_index order j == slice_index order k) ≡ false
    others j lt = elim (eqb_tells (slice_index order j) (slice_index order k)) [
      | inl same ↦ absurd ((o.each k (omega (arith, inside, o.all))).first j lt same.1)
      | inr differ ↦ differ.0
    ]

    here : (slice_index order k == slice_index order k) ≡ true
    here = elim (eqb_tells (slice_index order k) (slice_index order k)) [ inl same ↦ same.0 | inr differ ↦ absurd (differ.1 refl) ]

-- the slots of an order take no longer than a round
durations-le-round : (c : Cluster) (order caps : List ℕ) → IsNodeOrder (length caps) order → sum_by (duration c caps) order ≤ round_length c caps
durations-le-round c order caps o =
    let inside = λ (k : ℕ) (h : k < length order). (o.each k (omega (arith, h, o.all))).node in
    let once = λ (j k : ℕ) (lt : j < k) (h : k < length order). (o.each k (omega (arith, h, o.all))).first j lt in
    omega (arith, part_of_total (duration c caps) (length caps) order inside once, list_total (slot_duration c) caps)

module _ (c : Cluster) (order caps : List ℕ) (o : IsNodeOrder (length caps) order) where
  pub offset-at : (k : ℕ) → k < length order → offset c order caps (slice_index order k) ≡ sum_by (duration c caps) (take k order)
  offset-at k inside = ap (sum_by (duration c caps)) (nodes_before-at (length caps) order k o inside)

  -- a slot ends within its round
  pub slot_end-le : (k r : ℕ) → k < length order → slot_end c order caps (slice_index order k) r ≤ r * round_length c caps + round_length c caps
  slot_end-le k r inside = omega (arith, offset-at k inside, sum_by_more_le (duration c caps) order k 0 inside, durations-le-round c order caps o)

  -- of two slots of a round the one of the lesser position ends before the other begins
  slot_end-le-in_round : (j k r : ℕ) → k < length order → j < k → slot_end c order caps (slice_index order j) r ≤ slot_start c order caps (slice_index order k) r
  slot_end-le-in_round j k r inside lt =
      let f : ℕ → ℕ = duration c caps in
      let more = sum_by_more f order j 0 (omega (arith, inside, lt)) in
      let part = rw (take-take (j + 1) k order (omega (arith, lt))) at (sum_by-take-le f (take k order) (j + 1)) in
      omega (arith, offset-at j (omega (arith, inside, lt)), offset-at k inside, more, part)

  pub slot_end-le-slot_start : (j k r s : ℕ) → j < length order → k < length order → (r < s) ⊎ ((r ≡ s) × (j < k)) → slot_end c order caps (slice_index order j) r ≤ slot_start c order caps (slice_index order k) s
  slot_end-le-slot_start j k r s first second before = elim before [
    | inl earlier ↦ (let rounds : round_length c caps * (r + 1) ≤ round_length c caps * s = mul-le-mul_left (round_length c caps) (omega (arith, earlier)) in omega (arith, slot_end-le j r first, rounds))
    | inr same ↦ (let lt = slot_end-le-in_round j k r second same.1 in omega (arith, lt, ap (λ t. slot_start c order caps (slice_index order k) t) same.0))
  ]
