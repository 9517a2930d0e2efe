-- A step on two silent nodes: no settled plan has the second before the first.
use Rattle.std.proofs.Common.{◌≡◌, ◌≢◌, ℕ, zero, suc, ◌<◌, [], ◌∷◌, length, slice_index, arith, refl, lit<}
use Rattle.ttp_model.specs.declared.step.Step.TheVariants.{XSilent}
use Rattle.ttp_model.specs.Twins.{AreSilentTwins}
use Rattle.tt_choice.specs.Choice.{Choice}
use Rattle.tt_choice.specs.Branches.{root_choice, place_next}
use Rattle.tt_infer.specs.declared.fault.StepFault.TheVariants.{NoPremise}
use Rattle.tt_infer.specs.Answers.{IsStepFault}
use Rattle.sought_plans.specs.Known.{Known, first_facts}
use Rattle.sought_plans.specs.Conclusions.{NothingLeft, sharpened}
use Rattle.sought_plans.specs.Dominance.{StandTurned}
use Rattle.tt_infer.specs.Leaves.{ClosesLeaf}
use Rattle.tt_infer.specs.Table.{IsLawful}
use Rattle.tt_infer.specs.Worked.{two_silent}

no_message : {A : Type 0} (m : ℕ) → m < length two_silent.messages → A
no_message m h = absurd (omega (arith, h))

twins : AreSilentTwins two_silent 0 1
twins = record { u_is = lit< tt; v_is = lit< tt; two = λ is. omega (arith, is); u_silent = λ m h. no_message m h; v_silent = λ m h. no_message m h; capacities = refl }

-- the second first
abbrev turned : Choice
turned = place_next (root_choice two_silent) 1

abbrev at_first : Known
at_first = first_facts two_silent turned

stand_turned : StandTurned two_silent turned 0 1
stand_turned = record { in_order = lit< tt; twins = twins; first = record { place = 0; placed = lit< tt; v_is = refl; u_later = λ k h. absurd (omega (arith, h)) } }

step_closes : (goal : ℕ) → IsLawful two_silent turned goal at_first (XSilent 0 1) (sharpened two_silent at_first NothingLeft)
step_closes goal = record { there = (lit< tt, lit< tt); premise = stand_turned; conclusion = NothingLeft; concludes = refl; known = refl }

pub closes_second_first : (goal : ℕ) → ClosesLeaf two_silent turned (record { goal = goal; steps = XSilent 0 1 ∷ [] })
closes_second_first goal = (sharpened two_silent at_first NothingLeft, (refl, (sharpened two_silent at_first NothingLeft, step_closes goal, refl)), refl)

-- in their order
abbrev in_order : Choice
in_order = place_next (place_next (root_choice two_silent) 0) 1

not_turned : ¬ StandTurned two_silent in_order 0 1
not_turned is = at_place is.first.place is.first.placed is.first.v_is is.first.u_later
  where
    at_place : (place : ℕ) → place < 2 → slice_index (0 ∷ 1 ∷ []) place ≡ 1 → ((k : ℕ) → k < place → slice_index (0 ∷ 1 ∷ []) k ≢ 0) → ⊥
    at_place zero h v_is later = omega (arith, v_is)
    at_place (suc zero) h v_is later = later 0 (lit< tt) refl
    at_place (suc (suc place)) h v_is later = omega (arith, h)

pub in_order_is_refused : (goal : ℕ) → IsStepFault two_silent in_order goal (first_facts two_silent in_order) (XSilent 0 1) NoPremise
in_order_is_refused goal = (refl, ((lit< tt, lit< tt), not_turned))
