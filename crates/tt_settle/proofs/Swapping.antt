-- Twins that exchange their places: a better plan.
use Rattle.std.proofs.Common.{◌≡◌, ℕ, ◌<◌, arith, inl, inr, subst, sym, ◌∙◌, ap, swap, true}
use Rattle.ttp_model.specs.declared.plan.Plan.{Plan}
use Rattle.ttp_model.specs.Instance.{Instance}
use Rattle.ttp_model.specs.Rules.{IsInstance}
use Rattle.ttp_model.specs.Plans.{IsValid, start_of}
use Rattle.ttp_model.specs.Twins.{AreTwins, AreSilentTwins}
use Rattle.ttp_model.specs.Moves.{SwapsTwins, SwapsSilentTwins, exchanged, position_of, swapped}
use Rattle.tt_moves.proofs.ExchangedTwins.{swapped_valid}
use Rattle.tt_moves.proofs.ExchangedSilentTwins.{exchanged_valid}
use Rattle.tt_settle.specs.Settling.{IsTried, RestAsTwins, RestAsSilentTwins}
use Rattle.tt_settle.proofs.Trying.{better_by_move, tried_moved}

module _ (i : Instance) (plan next : Plan) (w : IsInstance i) (v : IsValid i plan) where
  pub twins_moved : (p q : ℕ) → p < q → AreTwins i p q → start_of plan q < start_of plan p → next ≡ swapped plan p q → IsTried i plan (λ r. RestAsTwins i r p q) next true
  twins_moved p q in_order twins later is =
      let move : SwapsTwins i plan next = record { first = p; second = q; twins = twins; in_order = in_order; later = later; moved_is = is } in
      let after = subst (IsValid i) (sym is) (swapped_valid i plan p q w v twins) in
      tried_moved i plan (λ r. RestAsTwins i r p q) next (better_by_move i plan next w v after (inl (inr (inl move))))

  pub silent_twins_moved : (a b j k : ℕ) → a < b → AreSilentTwins i a b → j ≡ position_of plan a → k ≡ position_of plan b → k < j → next ≡ record plan { order = swap plan.order j k; caps = swap plan.caps a b } → IsTried i plan (λ r. RestAsSilentTwins i r a b) next true
  silent_twins_moved a b j k in_order twins at_a at_b later is =
      let same : next ≡ exchanged plan a b = is ∙ ap (λ (n : ℕ). record plan { order = swap plan.order n k; caps = swap plan.caps a b }) at_a ∙ ap (λ (n : ℕ). record plan { order = swap plan.order (position_of plan a) n; caps = swap plan.caps a b }) at_b in
      let move : SwapsSilentTwins i plan next = record { first = a; second = b; twins = twins; in_order = in_order; later = omega (arith, later, at_a, at_b); moved_is = same } in
      let after = subst (IsValid i) (sym same) (exchanged_valid i plan a b v twins) in
      tried_moved i plan (λ r. RestAsSilentTwins i r a b) next (better_by_move i plan next w v after (inl (inr (inr move))))
