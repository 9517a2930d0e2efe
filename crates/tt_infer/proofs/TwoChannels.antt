-- Two messages that fill a frame each, in one round of two channels: what is too much for a half, and what for both.
use Rattle.std.proofs.Common.{ℕ, ◌<◌, [], ◌∷◌, false, arith, refl}
use Rattle.ttp_model.specs.declared.step.Step.TheVariants.{XFrames, XChannel}
use Rattle.ttp_model.specs.Worked.{one_message, two_messages}
use Rattle.tt_choice.specs.Branches.{root_choice}
use Rattle.sought_plans.specs.Known.{Known, first_facts}
use Rattle.sought_plans.specs.Conclusions.{NothingLeft, sharpened}
use Rattle.tt_infer.specs.Answers.{IsStepFault}
use Rattle.tt_infer.specs.Leaves.{ClosesLeaf}
use Rattle.tt_infer.specs.Table.{HasHalf, IsLawful}
use Rattle.tt_infer.specs.Worked.{on_one_channel, one_on_both}
use Rattle.tt_infer.specs.declared.fault.StepFault.TheVariants.{NoSuchIndex, NoPremise}

-- node 0 is there, on two channels
half : (k : ℕ) → k < 2 → HasHalf (two_messages false) 0 k
half k below = (omega arith, (omega arith, below))

-- both on channel 0
abbrev on_one : Known
on_one = first_facts (two_messages false) on_one_channel

half_is_full : (goal : ℕ) → IsLawful (two_messages false) on_one_channel goal on_one (XChannel 0 0 0 1) (sharpened (two_messages false) on_one NothingLeft)
half_is_full goal = record { there = half 0 (omega arith); premise = record { span = omega arith; bytes = omega arith }; conclusion = NothingLeft; concludes = refl; known = refl }

pub closes_half : (goal : ℕ) → ClosesLeaf (two_messages false) on_one_channel (record { goal = goal; steps = XChannel 0 0 0 1 ∷ [] })
closes_half goal = (sharpened (two_messages false) on_one NothingLeft, (refl, (sharpened (two_messages false) on_one NothingLeft, half_is_full goal, refl)), refl)

pub other_half_is_free : (goal : ℕ) → IsStepFault (two_messages false) on_one_channel goal on_one (XChannel 1 0 0 1) NoPremise
other_half_is_free goal = (refl, (half 1 (omega arith), λ is. omega (arith, is.bytes)))

pub both_halves_carry_them : (goal : ℕ) → IsStepFault (two_messages false) on_one_channel goal on_one (XFrames 0 0 1) NoPremise
both_halves_carry_them goal = (refl, (omega arith, λ is. omega (arith, is.bytes)))

-- one on both
abbrev on_both : Known
on_both = first_facts (two_messages false) one_on_both

frame_is_full : (goal : ℕ) → IsLawful (two_messages false) one_on_both goal on_both (XFrames 0 0 1) (sharpened (two_messages false) on_both NothingLeft)
frame_is_full goal = record { there = omega arith; premise = record { span = omega arith; bytes = omega arith }; conclusion = NothingLeft; concludes = refl; known = refl }

pub closes_frame : (goal : ℕ) → ClosesLeaf (two_messages false) one_on_both (record { goal = goal; steps = XFrames 0 0 1 ∷ [] })
closes_frame goal = (sharpened (two_messages false) on_both NothingLeft, (refl, (sharpened (two_messages false) on_both NothingLeft, frame_is_full goal, refl)), refl)

pub half_carries_one : (goal : ℕ) → IsStepFault (two_messages false) one_on_both goal on_both (XChannel 0 0 0 1) NoPremise
half_carries_one goal = (refl, (half 0 (omega arith), λ is. omega (arith, is.bytes)))

-- one channel has no halves
pub no_half : (goal : ℕ) → IsStepFault one_message (root_choice one_message) goal (first_facts one_message (root_choice one_message)) (XChannel 0 0 0 1) NoSuchIndex
no_half goal = (refl, λ is. omega (arith, is.1.0))
