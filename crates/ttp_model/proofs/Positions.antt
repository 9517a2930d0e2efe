-- Where nodes stand in an order that has each once.
use Rattle.std.proofs.Common.{◌≡◌, ℕ, ◌<◌, ◌==◌, length, slice_index, arith, ap, sym, ◌∙◌}
use Rattle.std.proofs.lemmas.List.Sums.{position_or_len_is}
use Rattle.std.proofs.lemmas.Bool.{ne_eqb, eq-eqb}
use Rattle.std.proofs.lemmas.Grind.{common_steps}
use Rattle.ttp_model.specs.declared.plan.Plan.{Plan}
use Rattle.ttp_model.specs.Instance.{Instance}
use Rattle.ttp_model.specs.Plans.{IsValid}
use Rattle.ttp_model.specs.Moves.{position_of}
use Rattle.ttp_model.proofs.Orders.{every_node}

module _ (i : Instance) (plan : Plan) (v : IsValid i plan) where
  -- a node stands where it is seen
  pub position_is : (n k : ℕ) → k < length plan.order → slice_index plan.order k ≡ n → position_of plan n ≡ k
  position_is n k inside same =
      position_or_len_is (λ m. m == n) plan.order k 0 (omega (arith, inside))
      (λ j lt. ne_eqb _ _ (λ is. (v.order.each k (omega (arith, inside, v.lengths.order))).first j lt (is ∙ sym same)))
      (λ lt. eq-eqb _ _ same)

  -- each node stands somewhere
  pub position_inside : (n : ℕ) → n < length i.nodes → (position_of plan n < length plan.order) × (slice_index plan.order (position_of plan n) ≡ n)
  position_inside n inside =
      let place = every_node (length i.nodes) plan.order n v.order inside in
      let seen : slice_index plan.order place.0 ≡ n = grind (arith, common_steps, place.2) in
      let is = position_is n place.0 place.1 seen in
      (omega (arith, is, place.1), ap (slice_index plan.order) is ∙ seen)
