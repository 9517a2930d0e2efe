-- Of silent twins the first is placed first in a settled plan: else they exchange positions and capacities.
use Rattle.std.proofs.Common.{◌≡◌, ℕ, ◌<◌, length, slice_index, arith, inl, inr, refl, ◌∙◌, sym, ap}
use Rattle.std.proofs.lemmas.Bool.{cases_order}
use Rattle.ttp_model.specs.declared.plan.Plan.{Plan}
use Rattle.ttp_model.specs.declared.step.Step.TheVariants.{XSilent}
use Rattle.ttp_model.specs.Instance.{Instance}
use Rattle.ttp_model.specs.Moves.{IsSettled, SwapsSilentTwins, exchanged, position_of}
use Rattle.ttp_model.proofs.Positions.{position_is, position_inside}
use Rattle.tt_moves.proofs.ExchangedSilentTwins.{exchanged_valid}
use Rattle.tt_choice.specs.Choice.{Choice, IsChoice, IsIn}
use Rattle.sought_plans.specs.Known.{Known, IsSought}
use Rattle.sought_plans.specs.Dominance.{StandTurned}
use Rattle.tt_infer.proofs.Soundness.{IsSoundFor}

-- the order of a settled plan begins with the prefix, so they don't stand turned there
none_stand_turned : (i : Instance) (c : Choice) (plan : Plan) (u v : ℕ) → IsChoice i c → IsSettled i plan → IsIn i c plan → ¬ StandTurned i c u v
none_stand_turned i c plan u v ok settled inside turned =
    let u_stands = position_inside i plan settled.valid u turned.twins.u_is in
    let inside_order : turned.first.place < length plan.order = omega (arith, turned.first.placed, ok.few, settled.valid.lengths.order) in
    let v_here : slice_index plan.order turned.first.place ≡ v = inside.prefix turned.first.place turned.first.placed ∙ turned.first.v_is in
    let v_at = position_is i plan settled.valid v turned.first.place inside_order v_here in
    let later : turned.first.place < position_of plan u = elim (cases_order turned.first.place (position_of plan u)) [
      | inl is ↦ absurd (turned.twins.two (sym u_stands.1 ∙ ap (slice_index plan.order) (sym is) ∙ v_here))
      | inr apart ↦ elim apart [
        | inl lt ↦ lt
        | inr gt ↦ absurd (turned.first.u_later (position_of plan u) gt (sym (inside.prefix (position_of plan u) (omega (arith, gt, turned.first.placed))) ∙ u_stands.1))
      ]
    ] in
    let move : SwapsSilentTwins i plan (exchanged plan u v) = record { first = u; second = v; twins = turned.twins; in_order = turned.in_order; later = omega (arith, later, v_at); moved_is = refl } in
    settled.rests (exchanged plan u v) (inl (inr (inr move))) (exchanged_valid i plan u v settled.valid turned.twins)

pub x_silent_sound : (i : Instance) (c : Choice) (goal : ℕ) (f : Known) (plan : Plan) (u v : ℕ) → IsChoice i c → IsSought i c goal plan → IsSoundFor i c goal f plan (XSilent u v)
x_silent_sound i c goal f plan u v ok sought k there premise is =
    absurd (none_stand_turned i c plan u v ok sought.settled sought.chosen premise)
