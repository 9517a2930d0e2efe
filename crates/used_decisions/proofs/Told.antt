-- Tables of what decisions say, as one decision more is told or taken back.
use Rattle.std.proofs.Common.{◌≡◌, ℕ, ◌+◌, ◌-◌, ◌*◌, ◌<◌, ◌==◌, ◌&&◌, nat_lt, if◌then◌else◌, List, [], ◌∷◌, ◌++◌, length, set, take, replicate, Bool, true, false, Option, None, Some, arith, inl, inr, refl, ap, sym, subst, ◌∙◌, length-append}
use Rattle.std.proofs.lemmas.Bool.{cases_eq, eq-eqb, ne_eqb}
use Rattle.std.proofs.Math.Seq.{take-append_seam}
use Rattle.ttp_model.specs.Instance.{Instance, node_at}
use Rattle.tt_choice.specs.declared.decision.Decision.{Decision}
use Rattle.tt_choice.specs.declared.decision.Decision.TheVariants.{Place, Cap, Before, AtMost, AtLeast, Channel}
use Rattle.tt_choice.specs.Kept.{sets_least, sets_greatest, sets_order, fixes_above, fixes_below}
use Rattle.used_decisions.specs.declared.turn.Turn.{Turn}
use Rattle.used_decisions.specs.declared.turn.Cut.{Cut}
use Rattle.used_decisions.specs.declared.turn.OnChannel.{OnChannel}
use Rattle.used_decisions.specs.declared.turn.Placed.{Placed}
use Rattle.used_decisions.specs.Turns.{last_of, level_of, cut_of, fixes_any, on_channel_of, placed_of}
use Rattle.used_decisions.specs.Tables.{IsTable, AreTold, Tells, orders_at, order_place}
use Rattle.used_decisions.specs.declared.tables.Tables.{Tables}
use Rattle.used_decisions.specs.declared.tables.Stood.{Stood}
use Rattle.used_decisions.proofs.LastTurns.{passed, passed_back, told_at, told_back, told_nothing, place_parts, placed_more, placed_as, order_here, order_elsewhere}

abbrev pub turn_of : Decision → ℕ → Turn
turn_of decision level = record { decision = decision; level = level }

and_false : (b : Bool) → (b && false) ≡ false
and_false true = refl
and_false false = refl

-- a list without its last element
pub without_last : {X : Type 0} (xs : List X) (y : X) → take (length (xs ++ y ∷ []) - 1) (xs ++ y ∷ []) ≡ xs
without_last xs y =
    let count : length (xs ++ y ∷ []) - 1 ≡ length xs = omega (arith, length-append xs (y ∷ [])) in
    rw count (take-append_seam xs (y ∷ []))

module _ (i : Instance) (turns : List Turn) (order : List Placed) (above below before : List (Option ℕ)) (least greatest : List (Option Cut)) (channels : List (Option OnChannel)) where
  pub least_told : (m r level : ℕ) → AreTold i turns order above below before least greatest channels → AreTold i (turns ++ turn_of (AtLeast m r) level ∷ []) order above below before (set least m (Some (record { round = r; level = level }))) greatest channels
  least_told m r level are = let turn = turn_of (AtLeast m r) level in record {
    placed = are.placed ∙ sym (placed_as turns turn refl);
    fixed_above = passed ℕ level_of fixes_above (length i.nodes) turns turn above (λ k inside. refl) are.fixed_above;
    fixed_below = passed ℕ level_of (fixes_below i) (length i.nodes) turns turn below (λ k inside. refl) are.fixed_below;
    ordered = passed ℕ level_of (orders_at (length i.processes)) (length i.processes * length i.processes) turns turn before (λ k inside. refl) are.ordered;
    from = told_at Cut cut_of sets_least (length i.messages) turns turn least m (Some (record { round = r; level = level })) refl (λ inside. eq-eqb m m refl) (λ k inside other. ne_eqb m k (λ same. other (sym same))) are.from;
    until = passed Cut cut_of sets_greatest (length i.messages) turns turn greatest (λ k inside. refl) are.until;
    on_channels = passed OnChannel on_channel_of fixes_any (length i.messages) turns turn channels (λ j inside. refl) are.on_channels;
  }

  pub greatest_told : (m r level : ℕ) → AreTold i turns order above below before least greatest channels → AreTold i (turns ++ turn_of (AtMost m r) level ∷ []) order above below before least (set greatest m (Some (record { round = r; level = level }))) channels
  greatest_told m r level are = let turn = turn_of (AtMost m r) level in record {
    placed = are.placed ∙ sym (placed_as turns turn refl);
    fixed_above = passed ℕ level_of fixes_above (length i.nodes) turns turn above (λ k inside. refl) are.fixed_above;
    fixed_below = passed ℕ level_of (fixes_below i) (length i.nodes) turns turn below (λ k inside. refl) are.fixed_below;
    ordered = passed ℕ level_of (orders_at (length i.processes)) (length i.processes * length i.processes) turns turn before (λ k inside. refl) are.ordered;
    from = passed Cut cut_of sets_least (length i.messages) turns turn least (λ k inside. refl) are.from;
    until = told_at Cut cut_of sets_greatest (length i.messages) turns turn greatest m (Some (record { round = r; level = level })) refl (λ inside. eq-eqb m m refl) (λ k inside other. ne_eqb m k (λ same. other (sym same))) are.until;
    on_channels = passed OnChannel on_channel_of fixes_any (length i.messages) turns turn channels (λ j inside. refl) are.on_channels;
  }

  pub order_told : (p q level : ℕ) → AreTold i turns order above below before least greatest channels → AreTold i (turns ++ turn_of (Before p q) level ∷ []) order above below (set before (order_place (length i.processes) p q) (Some level)) least greatest channels
  order_told p q level are = let turn = turn_of (Before p q) level in record {
    placed = are.placed ∙ sym (placed_as turns turn refl);
    fixed_above = passed ℕ level_of fixes_above (length i.nodes) turns turn above (λ k inside. refl) are.fixed_above;
    fixed_below = passed ℕ level_of (fixes_below i) (length i.nodes) turns turn below (λ k inside. refl) are.fixed_below;
    ordered = told_at ℕ level_of (orders_at (length i.processes)) (length i.processes * length i.processes) turns turn before (order_place (length i.processes) p q) (Some level) refl (λ inside. order_here (length i.processes) p q inside) (λ k inside other. order_elsewhere (length i.processes) p q k inside other) are.ordered;
    from = passed Cut cut_of sets_least (length i.messages) turns turn least (λ k inside. refl) are.from;
    until = passed Cut cut_of sets_greatest (length i.messages) turns turn greatest (λ k inside. refl) are.until;
    on_channels = passed OnChannel on_channel_of fixes_any (length i.messages) turns turn channels (λ j inside. refl) are.on_channels;
  }

  pub place_told : (n level : ℕ) → AreTold i turns order above below before least greatest channels → AreTold i (turns ++ turn_of (Place n) level ∷ []) (order ++ record { node = n; level = level } ∷ []) above below before least greatest channels
  place_told n level are = let turn = turn_of (Place n) level in record {
    placed = ap (λ (xs : List Placed). xs ++ record { node = n; level = level } ∷ []) are.placed ∙ sym (placed_more turns turn);
    fixed_above = passed ℕ level_of fixes_above (length i.nodes) turns turn above (λ k inside. refl) are.fixed_above;
    fixed_below = passed ℕ level_of (fixes_below i) (length i.nodes) turns turn below (λ k inside. refl) are.fixed_below;
    ordered = passed ℕ level_of (orders_at (length i.processes)) (length i.processes * length i.processes) turns turn before (λ k inside. refl) are.ordered;
    from = passed Cut cut_of sets_least (length i.messages) turns turn least (λ k inside. refl) are.from;
    until = passed Cut cut_of sets_greatest (length i.messages) turns turn greatest (λ k inside. refl) are.until;
    on_channels = passed OnChannel on_channel_of fixes_any (length i.messages) turns turn channels (λ j inside. refl) are.on_channels;
  }

  pub capacity_told : (n k level : ℕ) (over under : List (Option ℕ)) → over ≡ (if nat_lt 0 k then set above n (Some level) else above)
      → under ≡ (if nat_lt (k + 1) (length (node_at i n).capacities) then set below n (Some level) else below)
      → AreTold i turns order above below before least greatest channels → AreTold i (turns ++ turn_of (Cap n k) level ∷ []) order over under before least greatest channels
  capacity_told n k level over under over_is under_is are = let turn = turn_of (Cap n k) level in record {
    placed = are.placed ∙ sym (placed_as turns turn refl);
    fixed_above = rw over_is (told_where fixes_above (nat_lt 0 k) above (λ v. refl) are.fixed_above);
    fixed_below = rw under_is (told_where (fixes_below i) (nat_lt (k + 1) (length (node_at i n).capacities)) below (λ v. here_alone v) are.fixed_below);
    ordered = passed ℕ level_of (orders_at (length i.processes)) (length i.processes * length i.processes) turns turn before (λ j inside. refl) are.ordered;
    from = passed Cut cut_of sets_least (length i.messages) turns turn least (λ j inside. refl) are.from;
    until = passed Cut cut_of sets_greatest (length i.messages) turns turn greatest (λ j inside. refl) are.until;
    on_channels = passed OnChannel on_channel_of fixes_any (length i.messages) turns turn channels (λ j inside. refl) are.on_channels;
  }
    where
      -- the options are those of the node that is fixed
      here_alone : (v : ℕ) → fixes_below i v (Cap n k) ≡ ((n == v) && nat_lt (k + 1) (length (node_at i n).capacities))
      here_alone v = elim (cases_eq n v) [
        | inl same ↦ rw same refl
        | inr other ↦ rw (ne_eqb n v other) refl
      ]

      told_where : (picks : ℕ → Decision → Bool) (test : Bool) (items : List (Option ℕ)) → ((v : ℕ) → picks v (Cap n k) ≡ ((n == v) && test))
          → IsTable ℕ level_of picks (length i.nodes) items turns
          → IsTable ℕ level_of picks (length i.nodes) (if test then set items n (Some level) else items) (turns ++ turn_of (Cap n k) level ∷ [])
      told_where picks true items is table = told_at ℕ level_of picks (length i.nodes) turns (turn_of (Cap n k) level) items n (Some level) refl
          (λ inside. is n ∙ rw (eq-eqb n n refl) refl)
          (λ v inside other. is v ∙ rw (ne_eqb n v (λ same. other (sym same))) refl)
          table
      told_where picks false items is table = passed ℕ level_of picks (length i.nodes) turns (turn_of (Cap n k) level) items
          (λ v inside. is v ∙ and_false (n == v))
          table

  pub channel_told : (m k level : ℕ) → AreTold i turns order above below before least greatest channels → AreTold i (turns ++ turn_of (Channel m k) level ∷ []) order above below before least greatest (set channels m (Some (record { channel = k; level = level })))
  channel_told m k level are = let turn = turn_of (Channel m k) level in record {
    placed = are.placed ∙ sym (placed_as turns turn refl);
    fixed_above = passed ℕ level_of fixes_above (length i.nodes) turns turn above (λ j inside. refl) are.fixed_above;
    fixed_below = passed ℕ level_of (fixes_below i) (length i.nodes) turns turn below (λ j inside. refl) are.fixed_below;
    ordered = passed ℕ level_of (orders_at (length i.processes)) (length i.processes * length i.processes) turns turn before (λ j inside. refl) are.ordered;
    from = passed Cut cut_of sets_least (length i.messages) turns turn least (λ j inside. refl) are.from;
    until = passed Cut cut_of sets_greatest (length i.messages) turns turn greatest (λ j inside. refl) are.until;
    on_channels = told_at OnChannel on_channel_of fixes_any (length i.messages) turns turn channels m (Some (record { channel = k; level = level })) refl (λ inside. rw (eq-eqb m m refl) refl) (λ j inside other. rw (ne_eqb m j (λ same. other (sym same))) refl) are.on_channels;
  }

  -- and taken back
  pub least_back : (m r level : ℕ) (x : Option Cut) → (m < length i.messages → x ≡ cut_of (last_of (sets_least m) turns)) → AreTold i (turns ++ turn_of (AtLeast m r) level ∷ []) order above below before least greatest channels → AreTold i turns order above below before (set least m x) greatest channels
  least_back m r level x stood are = let turn = turn_of (AtLeast m r) level in record {
    placed = are.placed ∙ placed_as turns turn refl;
    fixed_above = passed_back ℕ level_of fixes_above (length i.nodes) turns turn above (λ k inside. refl) are.fixed_above;
    fixed_below = passed_back ℕ level_of (fixes_below i) (length i.nodes) turns turn below (λ k inside. refl) are.fixed_below;
    ordered = passed_back ℕ level_of (orders_at (length i.processes)) (length i.processes * length i.processes) turns turn before (λ k inside. refl) are.ordered;
    from = told_back Cut cut_of sets_least (length i.messages) turns turn least m x stood (λ k inside other. ne_eqb m k (λ same. other (sym same))) are.from;
    until = passed_back Cut cut_of sets_greatest (length i.messages) turns turn greatest (λ k inside. refl) are.until;
    on_channels = passed_back OnChannel on_channel_of fixes_any (length i.messages) turns turn channels (λ j inside. refl) are.on_channels;
  }

  pub greatest_back : (m r level : ℕ) (x : Option Cut) → (m < length i.messages → x ≡ cut_of (last_of (sets_greatest m) turns)) → AreTold i (turns ++ turn_of (AtMost m r) level ∷ []) order above below before least greatest channels → AreTold i turns order above below before least (set greatest m x) channels
  greatest_back m r level x stood are = let turn = turn_of (AtMost m r) level in record {
    placed = are.placed ∙ placed_as turns turn refl;
    fixed_above = passed_back ℕ level_of fixes_above (length i.nodes) turns turn above (λ k inside. refl) are.fixed_above;
    fixed_below = passed_back ℕ level_of (fixes_below i) (length i.nodes) turns turn below (λ k inside. refl) are.fixed_below;
    ordered = passed_back ℕ level_of (orders_at (length i.processes)) (length i.processes * length i.processes) turns turn before (λ k inside. refl) are.ordered;
    from = passed_back Cut cut_of sets_least (length i.messages) turns turn least (λ k inside. refl) are.from;
    until = told_back Cut cut_of sets_greatest (length i.messages) turns turn greatest m x stood (λ k inside other. ne_eqb m k (λ same. other (sym same))) are.until;
    on_channels = passed_back OnChannel on_channel_of fixes_any (length i.messages) turns turn channels (λ j inside. refl) are.on_channels;
  }

  pub order_back : (p q level : ℕ) (x : Option ℕ) → (p < length i.processes → q < length i.processes → x ≡ level_of (last_of (sets_order p q) turns)) → AreTold i (turns ++ turn_of (Before p q) level ∷ []) order above below before least greatest channels → AreTold i turns order above below (set before (order_place (length i.processes) p q) x) least greatest channels
  order_back p q level x stood are = let turn = turn_of (Before p q) level in record {
    placed = are.placed ∙ placed_as turns turn refl;
    fixed_above = passed_back ℕ level_of fixes_above (length i.nodes) turns turn above (λ k inside. refl) are.fixed_above;
    fixed_below = passed_back ℕ level_of (fixes_below i) (length i.nodes) turns turn below (λ k inside. refl) are.fixed_below;
    ordered = told_back ℕ level_of (orders_at (length i.processes)) (length i.processes * length i.processes) turns turn before (order_place (length i.processes) p q) x
        (λ inside.
        let at = place_parts (length i.processes) p q inside in
        stood at.0 at.1 ∙ ap (λ (picks : Decision → Bool). level_of (last_of picks turns)) (sym at.2))
        (λ k inside other. order_elsewhere (length i.processes) p q k inside other) are.ordered;
    from = passed_back Cut cut_of sets_least (length i.messages) turns turn least (λ k inside. refl) are.from;
    until = passed_back Cut cut_of sets_greatest (length i.messages) turns turn greatest (λ k inside. refl) are.until;
    on_channels = passed_back OnChannel on_channel_of fixes_any (length i.messages) turns turn channels (λ j inside. refl) are.on_channels;
  }

  pub place_back : (n level : ℕ) → AreTold i (turns ++ turn_of (Place n) level ∷ []) order above below before least greatest channels → AreTold i turns (take (length order - 1) order) above below before least greatest channels
  place_back n level are = let turn = turn_of (Place n) level in record {
    placed = rw (are.placed, placed_more turns turn) (without_last (placed_of turns) (record { node = n; level = level }));
    fixed_above = passed_back ℕ level_of fixes_above (length i.nodes) turns turn above (λ k inside. refl) are.fixed_above;
    fixed_below = passed_back ℕ level_of (fixes_below i) (length i.nodes) turns turn below (λ k inside. refl) are.fixed_below;
    ordered = passed_back ℕ level_of (orders_at (length i.processes)) (length i.processes * length i.processes) turns turn before (λ k inside. refl) are.ordered;
    from = passed_back Cut cut_of sets_least (length i.messages) turns turn least (λ k inside. refl) are.from;
    until = passed_back Cut cut_of sets_greatest (length i.messages) turns turn greatest (λ k inside. refl) are.until;
    on_channels = passed_back OnChannel on_channel_of fixes_any (length i.messages) turns turn channels (λ j inside. refl) are.on_channels;
  }

  pub capacity_back : (n k level : ℕ) (x y : Option ℕ) → (n < length i.nodes → (x ≡ level_of (last_of (fixes_above n) turns)) × (y ≡ level_of (last_of (fixes_below i n) turns)))
      → AreTold i (turns ++ turn_of (Cap n k) level ∷ []) order above below before least greatest channels → AreTold i turns order (set above n x) (set below n y) before least greatest channels
  capacity_back n k level x y stood are = let turn = turn_of (Cap n k) level in record {
    placed = are.placed ∙ placed_as turns turn refl;
    fixed_above = told_back ℕ level_of fixes_above (length i.nodes) turns turn above n x (λ inside. (stood inside).0) (λ v inside other. rw (ne_eqb n v (λ same. other (sym same))) refl) are.fixed_above;
    fixed_below = told_back ℕ level_of (fixes_below i) (length i.nodes) turns turn below n y (λ inside. (stood inside).1) (λ v inside other. rw (ne_eqb n v (λ same. other (sym same))) refl) are.fixed_below;
    ordered = passed_back ℕ level_of (orders_at (length i.processes)) (length i.processes * length i.processes) turns turn before (λ j inside. refl) are.ordered;
    from = passed_back Cut cut_of sets_least (length i.messages) turns turn least (λ j inside. refl) are.from;
    until = passed_back Cut cut_of sets_greatest (length i.messages) turns turn greatest (λ j inside. refl) are.until;
    on_channels = passed_back OnChannel on_channel_of fixes_any (length i.messages) turns turn channels (λ j inside. refl) are.on_channels;
  }

  pub channel_back : (m k level : ℕ) (x : Option OnChannel) → (m < length i.messages → x ≡ on_channel_of (last_of (fixes_any m) turns)) → AreTold i (turns ++ turn_of (Channel m k) level ∷ []) order above below before least greatest channels → AreTold i turns order above below before least greatest (set channels m x)
  channel_back m k level x stood are = let turn = turn_of (Channel m k) level in record {
    placed = are.placed ∙ placed_as turns turn refl;
    fixed_above = passed_back ℕ level_of fixes_above (length i.nodes) turns turn above (λ j inside. refl) are.fixed_above;
    fixed_below = passed_back ℕ level_of (fixes_below i) (length i.nodes) turns turn below (λ j inside. refl) are.fixed_below;
    ordered = passed_back ℕ level_of (orders_at (length i.processes)) (length i.processes * length i.processes) turns turn before (λ j inside. refl) are.ordered;
    from = passed_back Cut cut_of sets_least (length i.messages) turns turn least (λ j inside. refl) are.from;
    until = passed_back Cut cut_of sets_greatest (length i.messages) turns turn greatest (λ j inside. refl) are.until;
    on_channels = told_back OnChannel on_channel_of fixes_any (length i.messages) turns turn channels m x stood (λ j inside other. rw (ne_eqb m j (λ same. other (sym same))) refl) are.on_channels;
  }

-- of no decisions nothing is told
pub nothing_told : (i : Instance) (above below before : List (Option ℕ)) (least greatest : List (Option Cut)) (channels : List (Option OnChannel))
    → above ≡ replicate (length i.nodes) None → below ≡ replicate (length i.nodes) None → before ≡ replicate (length i.processes * length i.processes) None
    → least ≡ replicate (length i.messages) None → greatest ≡ replicate (length i.messages) None → channels ≡ replicate (length i.messages) None
    → AreTold i [] [] above below before least greatest channels
nothing_told i above below before least greatest channels a b c d e f = record {
  placed = refl;
  fixed_above = told_nothing ℕ level_of fixes_above (length i.nodes) above refl a;
  fixed_below = told_nothing ℕ level_of (fixes_below i) (length i.nodes) below refl b;
  ordered = told_nothing ℕ level_of (orders_at (length i.processes)) (length i.processes * length i.processes) before refl c;
  from = told_nothing Cut cut_of sets_least (length i.messages) least refl d;
  until = told_nothing Cut cut_of sets_greatest (length i.messages) greatest refl e;
  on_channels = told_nothing OnChannel on_channel_of fixes_any (length i.messages) channels refl f;
}

-- a decision is told as what it is
pub told_as : (i : Instance) (turns : List Turn) (turn : Turn) (decision : Decision) (t : Tables) (stood : Stood) → turn.decision ≡ decision → Tells i turns (turn_of decision turn.level) t stood → Tells i turns turn t stood
told_as i turns turn decision t stood is tells = subst (λ (d : Decision). Tells i turns (turn_of d turn.level) t stood) (sym is) tells

pub told_is : (i : Instance) (turns : List Turn) (turn : Turn) (decision : Decision) (t : Tables) (stood : Stood) → turn.decision ≡ decision → Tells i turns turn t stood → Tells i turns (turn_of decision turn.level) t stood
told_is i turns turn decision t stood is tells = subst (λ (d : Decision). Tells i turns (turn_of d turn.level) t stood) is tells
