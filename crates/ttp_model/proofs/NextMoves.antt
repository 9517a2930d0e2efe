-- Whether some move from a plan gives a valid plan can be told, and the plan that it gives is found.
use Rattle.std.proofs.Common.{ℕ, IsTrue, ◌-◌, ◌<◌, ◌⊎◌, length, inl, inr, refl, subst}
use Rattle.ttp_model.specs.declared.plan.Plan.{Plan}
use Rattle.ttp_model.specs.Instance.{Instance}
use Rattle.ttp_model.specs.Plans.{IsValid, start_of, round_of}
use Rattle.ttp_model.specs.Twins.{AreTwins, AreSilentTwins}
use Rattle.ttp_model.specs.Moves.{Move, MoveOnChannels, StartsEarlier, SendsEarlier, SwapsTwins, SwapsSilentTwins, TurnsFrame, leads_turned, position_of, started, sent, swapped, exchanged, turned}
use Rattle.ttp_model.proofs.Decide.{Decision, like, both, one_of, below, is_true, some_below}
use Rattle.ttp_model.proofs.Validity.{valid_or_not}
use Rattle.ttp_model.proofs.Alike.{twins_or_not, silent_twins_or_not}

module _ (i : Instance) (plan : Plan) where
  abbrev sooner : ℕ → Plan
  sooner p = started plan p (start_of plan p - 1)

  earlier_start : Decision ((moved : Plan) × StartsEarlier i plan moved × IsValid i moved)
  earlier_start = like ((p : ℕ) × (p < length i.processes) × ((0 < start_of plan p) × IsValid i (sooner p))) _
      (λ some. (sooner some.0, record { process = some.0; is_there = some.1; above = some.2.0; moved_is = refl }, some.2.1))
      (λ found. let move = found.1 in (move.process, move.is_there, (move.above, subst (IsValid i) move.moved_is found.2)))
      (some_below (λ p. (0 < start_of plan p) × IsValid i (sooner p)) (length i.processes) (λ p. both _ _ (below _ _) (valid_or_not i (sooner p))))

  earlier_round : Decision ((moved : Plan) × SendsEarlier i plan moved × IsValid i moved)
  earlier_round = like ((m : ℕ) × (m < length i.messages) × ((r : ℕ) × (r < round_of plan m) × IsValid i (sent plan m r))) _
      (λ some. (sent plan some.0 some.2.0, record { message = some.0; round = some.2.0; is_there = some.1; earlier = some.2.1; moved_is = refl }, some.2.2))
      (λ found. let move = found.1 in (move.message, move.is_there, (move.round, move.earlier, subst (IsValid i) move.moved_is found.2)))
      (some_below (λ m. (r : ℕ) × (r < round_of plan m) × IsValid i (sent plan m r)) (length i.messages) (λ m. some_below (λ r. IsValid i (sent plan m r)) (round_of plan m) (λ r. valid_or_not i (sent plan m r))))

  abbrev TwinsSwap : ℕ → ℕ → Type 0
  TwinsSwap a b = AreTwins i a b × ((start_of plan b < start_of plan a) × IsValid i (swapped plan a b))

  twins_swap : (a b : ℕ) → Decision (TwinsSwap a b)
  twins_swap a b = both _ _ (twins_or_not i a b) (both _ _ (below _ _) (valid_or_not i (swapped plan a b)))

  swapped_twins : Decision ((moved : Plan) × SwapsTwins i plan moved × IsValid i moved)
  swapped_twins = like ((b : ℕ) × (b < length i.processes) × ((a : ℕ) × (a < b) × TwinsSwap a b)) _
      (λ some. let rest = some.2 in (swapped plan rest.0 some.0, record { first = rest.0; second = some.0; twins = rest.2.0; in_order = rest.1; later = rest.2.1.0; moved_is = refl }, rest.2.1.1))
      (λ found. let move = found.1 in (move.second, move.twins.q_is, (move.first, move.in_order, (move.twins, (move.later, subst (IsValid i) move.moved_is found.2)))))
      (some_below (λ b. (a : ℕ) × (a < b) × TwinsSwap a b) (length i.processes) (λ b. some_below (λ a. TwinsSwap a b) b (λ a. twins_swap a b)))

  abbrev SilentTwinsSwap : ℕ → ℕ → Type 0
  SilentTwinsSwap u v = AreSilentTwins i u v × ((position_of plan v < position_of plan u) × IsValid i (exchanged plan u v))

  silent_twins_swap : (u v : ℕ) → Decision (SilentTwinsSwap u v)
  silent_twins_swap u v = both _ _ (silent_twins_or_not i u v) (both _ _ (below _ _) (valid_or_not i (exchanged plan u v)))

  swapped_silent_twins : Decision ((moved : Plan) × SwapsSilentTwins i plan moved × IsValid i moved)
  swapped_silent_twins = like ((v : ℕ) × (v < length i.nodes) × ((u : ℕ) × (u < v) × SilentTwinsSwap u v)) _
      (λ some. let rest = some.2 in (exchanged plan rest.0 some.0, record { first = rest.0; second = some.0; twins = rest.2.0; in_order = rest.1; later = rest.2.1.0; moved_is = refl }, rest.2.1.1))
      (λ found. let move = found.1 in (move.second, move.twins.v_is, (move.first, move.in_order, (move.twins, (move.later, subst (IsValid i) move.moved_is found.2)))))
      (some_below (λ v. (u : ℕ) × (u < v) × SilentTwinsSwap u v) (length i.nodes) (λ v. some_below (λ u. SilentTwinsSwap u v) v (λ u. silent_twins_swap u v)))

  -- some move that leaves messages on their channels gives a valid plan, or none does
  move_on_channels : Decision ((moved : Plan) × MoveOnChannels i plan moved × IsValid i moved)
  move_on_channels = like
      ((((moved : Plan) × StartsEarlier i plan moved × IsValid i moved) ⊎ ((moved : Plan) × SendsEarlier i plan moved × IsValid i moved))
      ⊎ (((moved : Plan) × SwapsTwins i plan moved × IsValid i moved) ⊎ ((moved : Plan) × SwapsSilentTwins i plan moved × IsValid i moved)))
      _ there back
      (one_of _ _ (one_of _ _ earlier_start earlier_round) (one_of _ _ swapped_twins swapped_silent_twins))
    where
      there : (((moved : Plan) × StartsEarlier i plan moved × IsValid i moved) ⊎ ((moved : Plan) × SendsEarlier i plan moved × IsValid i moved)) ⊎ (((moved : Plan) × SwapsTwins i plan moved × IsValid i moved) ⊎ ((moved : Plan) × SwapsSilentTwins i plan moved × IsValid i moved)) → (moved : Plan) × MoveOnChannels i plan moved × IsValid i moved
      there (inl (inl found)) = (found.0, inl (inl found.1), found.2)
      there (inl (inr found)) = (found.0, inl (inr found.1), found.2)
      there (inr (inl found)) = (found.0, inr (inl found.1), found.2)
      there (inr (inr found)) = (found.0, inr (inr found.1), found.2)

      sorted : (moved : Plan) → MoveOnChannels i plan moved → IsValid i moved → (((moved : Plan) × StartsEarlier i plan moved × IsValid i moved) ⊎ ((moved : Plan) × SendsEarlier i plan moved × IsValid i moved)) ⊎ (((moved : Plan) × SwapsTwins i plan moved × IsValid i moved) ⊎ ((moved : Plan) × SwapsSilentTwins i plan moved × IsValid i moved))
      sorted moved (inl (inl move)) v = inl (inl (moved, move, v))
      sorted moved (inl (inr move)) v = inl (inr (moved, move, v))
      sorted moved (inr (inl move)) v = inr (inl (moved, move, v))
      sorted moved (inr (inr move)) v = inr (inr (moved, move, v))

      back : (moved : Plan) × MoveOnChannels i plan moved × IsValid i moved → (((moved : Plan) × StartsEarlier i plan moved × IsValid i moved) ⊎ ((moved : Plan) × SendsEarlier i plan moved × IsValid i moved)) ⊎ (((moved : Plan) × SwapsTwins i plan moved × IsValid i moved) ⊎ ((moved : Plan) × SwapsSilentTwins i plan moved × IsValid i moved))
      back found = sorted found.0 found.1 found.2

  turned_frame : Decision ((moved : Plan) × TurnsFrame i plan moved × IsValid i moved)
  turned_frame = like ((m : ℕ) × (m < length i.messages) × (IsTrue (leads_turned i plan m) × IsValid i (turned i plan m))) _
      (λ some. (turned i plan some.0, record { message = some.0; is_there = some.1; leads = some.2.0; moved_is = refl }, some.2.1))
      (λ found. let move = found.1 in (move.message, move.is_there, (move.leads, subst (IsValid i) move.moved_is found.2)))
      (some_below (λ m. IsTrue (leads_turned i plan m) × IsValid i (turned i plan m)) (length i.messages) (λ m. both _ _ (is_true (leads_turned i plan m)) (valid_or_not i (turned i plan m))))

  -- some move gives a valid plan, or none does
  pub move_or_none : Decision ((moved : Plan) × Move i plan moved × IsValid i moved)
  move_or_none = like
      (((moved : Plan) × MoveOnChannels i plan moved × IsValid i moved) ⊎ ((moved : Plan) × TurnsFrame i plan moved × IsValid i moved))
      _ there back (one_of _ _ move_on_channels turned_frame)
    where
      there : ((moved : Plan) × MoveOnChannels i plan moved × IsValid i moved) ⊎ ((moved : Plan) × TurnsFrame i plan moved × IsValid i moved) → (moved : Plan) × Move i plan moved × IsValid i moved
      there (inl found) = (found.0, inl found.1, found.2)
      there (inr found) = (found.0, inr found.1, found.2)

      sorted : (moved : Plan) → Move i plan moved → IsValid i moved → ((moved : Plan) × MoveOnChannels i plan moved × IsValid i moved) ⊎ ((moved : Plan) × TurnsFrame i plan moved × IsValid i moved)
      sorted moved (inl move) v = inl (moved, move, v)
      sorted moved (inr move) v = inr (moved, move, v)

      back : (moved : Plan) × Move i plan moved × IsValid i moved → ((moved : Plan) × MoveOnChannels i plan moved × IsValid i moved) ⊎ ((moved : Plan) × TurnsFrame i plan moved × IsValid i moved)
      back found = sorted found.0 found.1 found.2
