-- Where what shows that a message could be sent earlier is known alike, it could be so in both.
use Rattle.std.proofs.Common.{◌≡◌, ◌≢◌, ℕ, ◌<◌, ◌≤◌, ◌==◌, ◌&&◌, ◌||◌, nat_le, nat_lt, Bool, true, false, length, arith, inl, inr, refl}
use Rattle.std.proofs.lemmas.Bool.{and_from, and_parts, leb-true, le-leb, ltb-true, lt-ltb, cases_eq, cases_lt, eq-eqb, eqb-true, or_left}
use Rattle.ttp_model.specs.Instance.{Instance, message_at, source_of}
use Rattle.ttp_model.specs.Totals.{total}
use Rattle.ttp_model.proofs.Totals.{total_le}
use Rattle.ttp_model.specs.declared.step.Step.TheVariants.{XLate}
use Rattle.tt_choice.specs.Choice.{Choice}
use Rattle.tt_choice.specs.Extremes.{start_least, cap_least}
use Rattle.tt_infer.specs.declared.fact.Fact.{Fact}
use Rattle.tt_infer.specs.declared.fact.Fact.TheVariants.{End, FirstRound, LateRound}
use Rattle.tt_infer.specs.declared.limit.Limit.TheVariants.{LeastSlot, LeastFrame}
use Rattle.sought_plans.specs.Known.{Known, le_of, lo_of, top_of}
use Rattle.sought_plans.specs.Premises.{sender_of}
use Rattle.sought_plans.specs.Dominance.{may_be_beside, bytes_beside, CouldBeEarlier}
use Rattle.tt_infer.specs.Reads.{AgreeOn, AgreeOnReads, KeepsOut}
use Rattle.tt_infer.proofs.Selected.{selected_le}

-- the second of two tests that is stronger
either_back : (a b x y : Bool) → (b ≡ true → x ≡ true → y ≡ true) → (a || (b && x)) ≡ true → (a || (b && y)) ≡ true
either_back true b x y stronger is = refl
either_back false true x y stronger is = stronger refl is
either_back false false x y stronger is = is

module _ (i : Instance) (c : Choice) (goal : ℕ) (f : Known) (d : Choice) (aim : ℕ) (g : Known) (m r : ℕ) (agree : AgreeOnReads i c goal f d aim g (XLate m r)) where
  -- what keeps another message out of the frame does so in both
  kept_out : (k : ℕ) → k < length i.messages → k ≢ m → source_of i k ≡ source_of i m → (fact : Fact) → KeepsOut f r k fact → AgreeOn f g fact
  kept_out k there other node fact keeps = agree.facts fact (inr (k, there, (record { other = other; one_node = node }, keeps)))

  comes_back : (k : ℕ) → k < length i.messages → k ≢ m → source_of i k ≡ source_of i m → lo_of g k ≤ r → r < top_of g k → (lo_of f k ≤ r) × (r < top_of f k)
  comes_back k there other node least late = elim (cases_lt r (lo_of f k)) [
    | inl later ↦
        let same : lo_of f k ≡ lo_of g k = kept_out k there other node (FirstRound k) (inl (later, refl)) in
        absurd (omega (arith, later, same, least))
    | inr from ↦ elim (cases_lt r (top_of f k)) [
      | inl until ↦ (from, until)
      | inr earlier ↦
          let same : top_of f k ≡ top_of g k = kept_out k there other node (LateRound k) (inr (from, earlier, refl)) in
          absurd (omega (arith, earlier, same, late))
    ]
  ]

  beside_back : (k : ℕ) → k < length i.messages → may_be_beside i g m r k ≡ true → may_be_beside i f m r k ≡ true
  beside_back k there is = elim (cases_eq k m) [
    | inl same ↦ or_left (k == m) _ (eq-eqb k m same)
    | inr other ↦ either_back (k == m) (source_of i k == source_of i m) (nat_le (lo_of g k) r && nat_lt r (top_of g k)) (nat_le (lo_of f k) r && nat_lt r (top_of f k)) (λ node in_range.
        let both = and_parts (nat_le (lo_of g k) r) (nat_lt r (top_of g k)) in_range in
        let back = comes_back k there other (eqb-true _ _ node) (leb-true (lo_of g k) r both.0) (ltb-true r (top_of g k) both.1) in
        and_from _ _ (le-leb _ _ back.0) (lt-ltb _ _ back.1)) is
  ]

  beside_alike : total (bytes_beside i g m r) (length i.messages) ≤ total (bytes_beside i f m r) (length i.messages)
  beside_alike =
      total_le (bytes_beside i g m r) (bytes_beside i f m r) (length i.messages) (λ k there.
      selected_le (may_be_beside i g m r k) (may_be_beside i f m r k) (message_at i k).bytes (beside_back k there))

  pub earlier_alike : CouldBeEarlier i c f m r → CouldBeEarlier i d g m r
  earlier_alike could =
      let first : lo_of f m ≡ lo_of g m = agree.facts (FirstRound m) (inl (inl refl)) in
      let end : le_of f (sender_of i m) ≡ le_of g (sender_of i m) = agree.facts (End (sender_of i m)) (inl (inr refl)) in
      let slot : start_least i c (source_of i m) r ≡ start_least i d (source_of i m) r = (agree.limits (LeastSlot (source_of i m)) (inl refl) r).0 in
      let frame : cap_least i c (source_of i m) ≡ cap_least i d (source_of i m) = agree.limits (LeastFrame (source_of i m)) (inr refl) in
      record {
        earlier = omega (arith, could.earlier, first);
        ready = omega (arith, could.ready, end, slot);
        room = omega (arith, could.room, beside_alike, frame);
      }
