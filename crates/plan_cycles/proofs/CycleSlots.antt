-- The slots of all cycles follow one another.
use Rattle.std.proofs.Common.{◌≡◌, ◌∙◌, ℕ, suc, ◌+◌, ◌*◌, ◌<◌, ◌≤◌, ◌⊎◌, length, slice_index, arith, inl, inr, refl, sym, ap}
use Rattle.std.proofs.Math.Nat.{mul-le-mul_left}
use Rattle.std.proofs.lemmas.Bool.{cases_order}
use Rattle.ttp_model.specs.declared.plan.Plan.{Plan}
use Rattle.ttp_model.specs.Instance.{Instance}
use Rattle.ttp_model.specs.Moves.{position_of}
use Rattle.ttp_model.specs.Plans.{IsNodeOrder, IsValid}
use Rattle.ttp_model.specs.Slots.{round_length, slot_end, slot_start}
use Rattle.ttp_model.proofs.Positions.{position_inside}
use Rattle.tt_layout.proofs.SlotTimes.{slot_end-le, slot_end-le-slot_start}
use Rattle.plan_cycles.specs.Cycles.{CycleSlot, IsCycleSlot, closes_at, opens_at}
use Rattle.plan_cycles.specs.Repeating.{AreSlotsApart}
use Rattle.plan_cycles.proofs.Periods.{earlier_cycle}

abbrev slot : ℕ → ℕ → ℕ → CycleSlot
slot c r n = record { cycle = c; round = r; node = n }

same_slot : (c d r s n m : ℕ) → c ≡ d → r ≡ s → n ≡ m → slot c r n ≡ slot d s m
same_slot c d r s n m cycle round node = rw (cycle, round, node) refl

module _ (i : Instance) (plan : Plan) (v : IsValid i plan) where
  order : IsNodeOrder (length plan.caps) plan.order
  order = rw (← v.lengths.capacities) at v.order

  -- the slot of node n in round r ends before that of m in round s begins
  abbrev Ends : ℕ → ℕ → ℕ → ℕ → Type 0
  Ends n r m s = slot_end i.cluster plan.order plan.caps n r ≤ slot_start i.cluster plan.order plan.caps m s

  abbrev node : ℕ → ℕ
  node k = slice_index plan.order k

  at_places : (r s j k : ℕ) → j < length plan.order → k < length plan.order → ((r ≡ s) × (j ≡ k)) ⊎ (Ends (node j) r (node k) s ⊎ Ends (node k) s (node j) r)
  at_places r s j k first second =
      let before = slot_end-le-slot_start i.cluster plan.order plan.caps order j k r s first second in
      let behind = slot_end-le-slot_start i.cluster plan.order plan.caps order k j s r second first in
      elim (cases_order r s) [
        | inl round ↦ elim (cases_order j k) [
          | inl place ↦ inl (round, place)
          | inr other ↦ elim other [ inl below ↦ inr (inl (before (inr (round, below)))) | inr above ↦ inr (inr (behind (inr (sym round, above)))) ]
        ]
        | inr other ↦ elim other [ inl below ↦ inr (inl (before (inl below))) | inr above ↦ inr (inr (behind (inl above))) ]
      ]

  in_a_cycle : (r s n m : ℕ) → n < length i.nodes → m < length i.nodes → ((r ≡ s) × (n ≡ m)) ⊎ (Ends n r m s ⊎ Ends m s n r)
  in_a_cycle r s n m first second =
      let one = position_inside i plan v n first in
      let two = position_inside i plan v m second in
      elim (at_places r s (position_of plan n) (position_of plan m) one.0 two.0) [
        | inl same ↦ inl (same.0, sym one.1 ∙ (ap (slice_index plan.order) same.1 ∙ two.1))
        | inr apart ↦ inr (rw (one.1, two.1) at apart)
      ]

  -- a slot ends within as many rounds as its round and those before it
  ends_in_round : (r n : ℕ) → n < length i.nodes → slot_end i.cluster plan.order plan.caps n r ≤ r * round_length i.cluster plan.caps + round_length i.cluster plan.caps
  ends_in_round r n inside =
      let place = position_inside i plan v n inside in
      rw place.1 at (slot_end-le i.cluster plan.order plan.caps order (position_of plan n) r place.0)

  module _ (period rounds : ℕ) (fits : rounds * round_length i.cluster plan.caps ≤ period) where
    closes_within : (s : CycleSlot) → IsCycleSlot rounds i s → slot_end i.cluster plan.order plan.caps s.node s.round ≤ period
    closes_within s there =
        let round = round_length i.cluster plan.caps in
        let more : round * suc s.round ≤ round * rounds = mul-le-mul_left round there.round in
        omega (arith, ends_in_round s.round s.node there.node, more, fits)

    -- one ends before the other begins
    abbrev pub Precedes : CycleSlot → CycleSlot → Type 0
    Precedes s t = closes_at period i plan s ≤ opens_at period i plan t

    pub slots_in_order : (s t : CycleSlot) → IsCycleSlot rounds i s → IsCycleSlot rounds i t → (s ≡ t) ⊎ (Precedes s t ⊎ Precedes t s)
    slots_in_order s t here there = elim (cases_order s.cycle t.cycle) [
      | inl one_cycle ↦
          let moved = ap (λ c. c * period) one_cycle in
          elim (in_a_cycle s.round t.round s.node t.node here.node there.node) [
            | inl same ↦ inl (same_slot s.cycle t.cycle s.round t.round s.node t.node one_cycle same.0 same.1)
            | inr apart ↦ elim apart [ inl first ↦ inr (inl (omega (arith, first, moved))) | inr second ↦ inr (inr (omega (arith, second, moved))) ]
          ]
      | inr other ↦ elim other [
        | inl earlier ↦ inr (inl (omega (arith, earlier_cycle period s.cycle t.cycle _ (closes_within s here) earlier)))
        | inr later ↦ inr (inr (omega (arith, earlier_cycle period t.cycle s.cycle _ (closes_within t there) later)))
      ]
    ]

    pub slots_apart : AreSlotsApart period rounds i plan
    slots_apart s t here there differ = elim (slots_in_order s t here there) [ inl same ↦ absurd (differ same) | inr apart ↦ apart ]
