-- No message of a settled plan leads a turned frame.
use Rattle.std.proofs.Common.{◌≡◌, ℕ, ◌<◌, ◌==◌, not, true, false, Some, length, arith, inl, inr, refl, subst}
use Rattle.std.proofs.lemmas.Bool.{cases_Bool, and_from, and_left, and_right, and_parts, eq-eqb, eqb-true, not_from_true}
use Rattle.ttp_model.specs.declared.plan.Plan.{Plan}
use Rattle.ttp_model.specs.declared.step.Step.TheVariants.{XMirror}
use Rattle.ttp_model.specs.Limits.{both_channels}
use Rattle.ttp_model.specs.Instance.{Instance, source_of}
use Rattle.ttp_model.specs.Rules.{IsInstance}
use Rattle.ttp_model.specs.Plans.{channel_of, is_in_frame, round_of}
use Rattle.ttp_model.specs.Moves.{IsSettled, TurnsFrame, is_alone_in, first_alone, leads_turned, turned}
use Rattle.ttp_model.proofs.TurnedFrames.{first_is}
use Rattle.tt_moves.proofs.TurnedFrames.{turned_valid}
use Rattle.tt_choice.specs.Choice.{Choice, IsFixedTo, IsIn, fixed_channel}
use Rattle.sought_plans.specs.Known.{Known, IsSought, AreTrueOf}
use Rattle.sought_plans.specs.Dominance.{IsMirrored, KeepsAside}
use Rattle.tt_infer.proofs.Soundness.{IsSoundFor}

-- what is fixed for a message is its channel
fixed_is : (i : Instance) (c : Choice) (plan : Plan) (m number : ℕ) → IsIn i c plan → m < length i.messages → fixed_channel c m ≡ Some number → channel_of plan m ≡ number
fixed_is i c plan m number inside hm fixed = subst (λ o. IsFixedTo o (channel_of plan m)) fixed (inside.channels m hm)

module _ (i : Instance) (c : Choice) (plan : Plan) (f : Known) (m : ℕ) (w : IsInstance i) (settled : IsSettled i plan) (inside : IsIn i c plan) (t : AreTrueOf i plan f) (hm : m < length i.messages) (mirrored : IsMirrored i c f m) where
  second : channel_of plan m ≡ 1
  second = fixed_is i c plan m 1 inside hm mirrored.second

  -- who keeps aside is not in the frame of m, or on both channels
  aside : (k : ℕ) → k < length i.messages → round_of plan k ≡ round_of plan m → KeepsAside c f m k → channel_of plan k ≡ both_channels
  aside k hk together (inl fixed) = fixed_is i c plan k both_channels inside hk fixed
  aside k hk together (inr (inl before)) = absurd (omega (arith, before, together, t.top k hk, t.lo m hm))
  aside k hk together (inr (inr behind)) = absurd (omega (arith, behind, together, t.top m hm, t.lo k hk))

  -- so no lower message is alone there
  none_lower : (k : ℕ) → k < m → is_alone_in i plan (source_of i m) (round_of plan m) k ≡ false
  none_lower k below = elim (cases_Bool (is_in_frame i plan (source_of i m) (round_of plan m) k)) [
    | inr elsewhere ↦ and_left (is_in_frame i plan (source_of i m) (round_of plan m) k) (not (channel_of plan k == both_channels)) elsewhere
    | inl there ↦
        let parts = and_parts (source_of i k == source_of i m) (round_of plan k == round_of plan m) there in
        let both = aside k (omega (arith, below, hm)) (eqb-true _ _ parts.1) (mirrored.lower k below (eqb-true _ _ parts.0)) in
        and_right (is_in_frame i plan (source_of i m) (round_of plan m) k) (not (channel_of plan k == both_channels)) (not_from_true _ (eq-eqb _ _ both))
  ]

  alone : is_alone_in i plan (source_of i m) (round_of plan m) m ≡ true
  alone = rw (eq-eqb (source_of i m) (source_of i m) refl, eq-eqb (round_of plan m) (round_of plan m) refl, second) refl

  leads : leads_turned i plan m ≡ true
  leads =
      let first = first_is (is_alone_in i plan (source_of i m) (round_of plan m)) (length i.messages) m (omega (arith, hm)) none_lower (λ _. alone) in
      and_from (channel_of plan m == 1) (first_alone i plan (source_of i m) (round_of plan m) == m) (eq-eqb _ _ second) (eq-eqb _ _ first)

  none_is_mirrored : ⊥
  none_is_mirrored =
      let move : TurnsFrame i plan (turned i plan m) = record { message = m; is_there = hm; leads = leads; moved_is = refl } in
      settled.rests (turned i plan m) (inr move) (turned_valid i plan m w settled.valid hm leads)

pub x_mirror_sound : (i : Instance) (c : Choice) (goal : ℕ) (f : Known) (plan : Plan) (m : ℕ) → IsInstance i → IsSought i c goal plan → AreTrueOf i plan f → IsSoundFor i c goal f plan (XMirror m)
x_mirror_sound i c goal f plan m w sought t k there premise is = absurd (none_is_mirrored i c plan f m w sought.settled sought.chosen t there premise)
