-- Each move lowers the weight.
use Rattle.std.proofs.Common.{◌≡◌, ◌≢◌, ℕ, suc, ◌+◌, ◌-◌, ◌*◌, ◌<◌, length, slice_index, slice_set, sum, arith, inl, inr, ap, sym, ◌∙◌, add-mul, mul-le-mul_left, le_of_lt, suc-mul}
use Rattle.std.proofs.lemmas.List.Sums.{sum_by-set}
use Rattle.std.proofs.lemmas.List.Edits.{swapped_from_swap, length-swap}
use Rattle.std.proofs.lemmas.List.Sorted.{sum_by-IsPermutation, IsPermutation-swap}
use Rattle.ttp_model.specs.declared.plan.Plan.{Plan}
use Rattle.ttp_model.specs.Instance.{Instance}
use Rattle.ttp_model.specs.Rules.{IsInstance}
use Rattle.ttp_model.specs.Plans.{IsValid, start_of}
use Rattle.ttp_model.specs.Moves.{Move, StartsEarlier, SendsEarlier, SwapsTwins, SwapsSilentTwins, TurnsFrame, IsLighter, weight, time_weight, start_weight, position_weight, turned_frames, position_of}
use Rattle.ttp_model.proofs.PlanNumbers.{start_below_horizon}
use Rattle.ttp_model.proofs.Totals.{total_two_places}
use Rattle.ttp_model.proofs.Positions.{position_is, position_inside}
use Rattle.ttp_model.proofs.TurnedFrames.{one_less_turned}

times_less : (e x y : ℕ) → y < x → suc e * y < suc e * x
times_less e x y less = omega (arith, suc-mul e x, suc-mul e y, mul-le-mul_left e (le_of_lt less))

-- the greater factor goes with the greater number
crossed_less : (a b x y : ℕ) → a < b → y < x → a * x + b * y < a * y + b * x
crossed_less a b x y less lower = at (b - suc a) (omega (arith, less))
  where
    at : (e : ℕ) → b ≡ a + suc e → a * x + b * y < a * y + b * x
    at e is =
        let by_x : b * x ≡ a * x + suc e * x = ap (λ n. n * x) is ∙ add-mul a (suc e) x in
        let by_y : b * y ≡ a * y + suc e * y = ap (λ n. n * y) is ∙ add-mul a (suc e) y in
        let less_there = times_less e x y lower in
        omega (arith, by_x, by_y, less_there)

module _ (i : Instance) (plan moved : Plan) (w : IsInstance i) (v : IsValid i plan) (after : IsValid i moved) where
  starts_earlier : StartsEarlier i plan moved → IsLighter (weight i moved) (weight i plan)
  starts_earlier move =
      let starts : sum moved.starts ≡ sum (slice_set plan.starts move.process (start_of plan move.process - 1)) = ap (λ m. sum m.starts) move.moved_is in
      let rounds : sum moved.rounds ≡ sum plan.rounds = ap (λ m. sum m.rounds) move.moved_is in
      let set = sum_by-set (λ x. x) plan.starts move.process (start_of plan move.process - 1) 0 (omega (arith, move.is_there, v.lengths.starts)) in
      inl (omega (arith, starts, rounds, set, move.above))

  sends_earlier : SendsEarlier i plan moved → IsLighter (weight i moved) (weight i plan)
  sends_earlier move =
      let starts : sum moved.starts ≡ sum plan.starts = ap (λ m. sum m.starts) move.moved_is in
      let rounds : sum moved.rounds ≡ sum (slice_set plan.rounds move.message move.round) = ap (λ m. sum m.rounds) move.moved_is in
      let set = sum_by-set (λ x. x) plan.rounds move.message move.round 0 (omega (arith, move.is_there, v.lengths.rounds)) in
      inl (omega (arith, starts, rounds, set, move.earlier))

  swaps_twins : SwapsTwins i plan moved → IsLighter (weight i moved) (weight i plan)
  swaps_twins move =
      let a = move.first in
      let b = move.second in
      let a_is : a < length plan.starts = omega (arith, move.twins.p_is, v.lengths.starts) in
      let b_is : b < length plan.starts = omega (arith, move.twins.q_is, v.lengths.starts) in
      let places = swapped_from_swap plan.starts moved.starts a b 0 a_is b_is (ap (λ m. m.starts) move.moved_is) in
      let rounds : sum moved.rounds ≡ sum plan.rounds = ap (λ m. sum m.rounds) move.moved_is in
      let positions : position_weight i moved ≡ position_weight i plan = ap (position_weight i) move.moved_is in
      let kept = sum_by-IsPermutation (λ x. x) plan.starts moved.starts (IsPermutation-swap plan.starts moved.starts a b a_is b_is (ap (λ m. m.starts) move.moved_is)) in
      let early = start_below_horizon i plan w v a move.twins.p_is in
      let weights = total_two_places (λ p. p * (i.cluster.horizon - start_of moved p)) (λ p. p * (i.cluster.horizon - start_of plan p)) (length i.processes) a b move.in_order move.twins.q_is
      (λ k inside not_a not_b. ap (λ s. k * (i.cluster.horizon - s)) (places.2 k not_a not_b)) in
      let crossed = crossed_less a b (i.cluster.horizon - start_of plan b) (i.cluster.horizon - start_of plan a) move.in_order (omega (arith, move.later, early)) in
      let first : a * (i.cluster.horizon - start_of moved a) ≡ a * (i.cluster.horizon - start_of plan b) = ap (λ s. a * (i.cluster.horizon - s)) places.0 in
      let second : b * (i.cluster.horizon - start_of moved b) ≡ b * (i.cluster.horizon - start_of plan a) = ap (λ s. b * (i.cluster.horizon - s)) places.1 in
      inr (omega (arith, rounds, kept), inl (omega (arith, positions, weights, crossed, first, second)))

  swaps_silent_twins : SwapsSilentTwins i plan moved → IsLighter (weight i moved) (weight i plan)
  swaps_silent_twins move =
      let u = move.first in
      let other = move.second in
      let at_u = position_inside i plan v u move.twins.u_is in
      let at_v = position_inside i plan v other move.twins.v_is in
      let a = position_of plan u in
      let b = position_of plan other in
      let places = swapped_from_swap plan.order moved.order a b 0 at_u.0 at_v.0 (ap (λ m. m.order) move.moved_is) in
      let long : length moved.order ≡ length plan.order = ap (λ m. length m.order) move.moved_is ∙ length-swap plan.order a b in
      let u_then : position_of moved u ≡ b = position_is i moved after u b (omega (arith, at_v.0, long)) (places.1 ∙ at_u.1) in
      let other_then : position_of moved other ≡ a = position_is i moved after other a (omega (arith, at_u.0, long)) (places.0 ∙ at_v.1) in
      let others : (n : ℕ) → n < length i.nodes → n ≢ u → n ≢ other → position_of moved n ≡ position_of plan n = λ n inside not_u not_v.
      (let at_n = position_inside i plan v n inside in
      let same = places.2 (position_of plan n)
      (λ is. not_u (sym at_n.1 ∙ ap (slice_index plan.order) is ∙ at_u.1))
      (λ is. not_v (sym at_n.1 ∙ ap (slice_index plan.order) is ∙ at_v.1)) in
      position_is i moved after n (position_of plan n) (omega (arith, at_n.0, long)) (same ∙ at_n.1)) in
      let times : time_weight moved ≡ time_weight plan = ap time_weight move.moved_is in
      let starts : start_weight i moved ≡ start_weight i plan = ap (start_weight i) move.moved_is in
      let weights = total_two_places (λ n. n * (length i.nodes - position_of moved n)) (λ n. n * (length i.nodes - position_of plan n)) (length i.nodes) u other move.in_order move.twins.v_is
      (λ k inside not_u not_v. ap (λ s. k * (length i.nodes - s)) (others k inside not_u not_v)) in
      let crossed = crossed_less u other (length i.nodes - b) (length i.nodes - a) move.in_order (omega (arith, move.later, at_u.0, v.lengths.order)) in
      let first : u * (length i.nodes - position_of moved u) ≡ u * (length i.nodes - b) = ap (λ s. u * (length i.nodes - s)) u_then in
      let second : other * (length i.nodes - position_of moved other) ≡ other * (length i.nodes - a) = ap (λ s. other * (length i.nodes - s)) other_then in
      inr (times, inl (omega (arith, starts, weights, crossed, first, second)))

  turns_frame : TurnsFrame i plan moved → IsLighter (weight i moved) (weight i plan)
  turns_frame move =
      let times : time_weight moved ≡ time_weight plan = ap time_weight move.moved_is in
      let twins : start_weight i moved + position_weight i moved ≡ start_weight i plan + position_weight i plan = ap (λ m. start_weight i m + position_weight i m) move.moved_is in
      inr (times, inr (twins, omega (arith, ap (turned_frames i) move.moved_is, one_less_turned i plan move.message move.is_there move.leads)))

pub lowers_weight : (i : Instance) (plan moved : Plan) → IsInstance i → IsValid i plan → IsValid i moved → Move i plan moved → IsLighter (weight i moved) (weight i plan)
lowers_weight i plan moved w v after (inl (inl (inl move))) = starts_earlier i plan moved w v after move
lowers_weight i plan moved w v after (inl (inl (inr move))) = sends_earlier i plan moved w v after move
lowers_weight i plan moved w v after (inl (inr (inl move))) = swaps_twins i plan moved w v after move
lowers_weight i plan moved w v after (inl (inr (inr move))) = swaps_silent_twins i plan moved w v after move
lowers_weight i plan moved w v after (inr move) = turns_frame i plan moved w v after move
