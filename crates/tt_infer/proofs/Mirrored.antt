-- Two messages of two channels: which choices of their channels no settled plan is in.
use Rattle.std.proofs.Common.{◌≡◌, ℕ, zero, suc, ◌<◌, [], ◌∷◌, false, Option, is_some, unwrap_or, arith, inl, inr, refl, ap}
use Rattle.std.proofs.lemmas.Bool.{false≢true}
use Rattle.ttp_model.specs.declared.step.Step.TheVariants.{XMirror}
use Rattle.ttp_model.specs.Instance.{source_of}
use Rattle.ttp_model.specs.Worked.{one_message, two_messages}
use Rattle.tt_choice.specs.Choice.{Choice}
use Rattle.tt_choice.specs.Branches.{root_choice}
use Rattle.sought_plans.specs.Known.{Known, first_facts}
use Rattle.sought_plans.specs.Conclusions.{NothingLeft, sharpened}
use Rattle.sought_plans.specs.Dominance.{KeepsAside}
use Rattle.tt_infer.specs.Answers.{IsStepFault}
use Rattle.tt_infer.specs.Leaves.{ClosesLeaf}
use Rattle.tt_infer.specs.Table.{IsLawful}
use Rattle.tt_infer.specs.Worked.{first_on_second, next_on_second, next_behind_both}
use Rattle.tt_infer.specs.declared.fault.StepFault.TheVariants.{NoPremise}

-- what is known at first of a choice of the two
abbrev at_first : Choice → Known
at_first c = first_facts (two_messages false) c

first_leads : (goal : ℕ) → IsLawful (two_messages false) first_on_second goal (at_first first_on_second) (XMirror 0) (sharpened (two_messages false) (at_first first_on_second) NothingLeft)
first_leads goal = record { there = omega arith; premise = record { second = refl; lower = λ k below. absurd (omega (arith, below)) }; conclusion = NothingLeft; concludes = refl; known = refl }

pub closes_first : (goal : ℕ) → ClosesLeaf (two_messages false) first_on_second (record { goal = goal; steps = XMirror 0 ∷ [] })
closes_first goal = (sharpened (two_messages false) (at_first first_on_second) NothingLeft, (refl, (sharpened (two_messages false) (at_first first_on_second) NothingLeft, first_leads goal, refl)), refl)

keeps_aside : (k : ℕ) → k < 1 → source_of (two_messages false) k ≡ source_of (two_messages false) 1 → KeepsAside next_behind_both (at_first next_behind_both) 1 k
keeps_aside zero below node = inl refl
keeps_aside (suc k) below node = absurd (omega (arith, below))

next_leads : (goal : ℕ) → IsLawful (two_messages false) next_behind_both goal (at_first next_behind_both) (XMirror 1) (sharpened (two_messages false) (at_first next_behind_both) NothingLeft)
next_leads goal = record { there = omega arith; premise = record { second = refl; lower = keeps_aside }; conclusion = NothingLeft; concludes = refl; known = refl }

pub closes_behind_both : (goal : ℕ) → ClosesLeaf (two_messages false) next_behind_both (record { goal = goal; steps = XMirror 1 ∷ [] })
closes_behind_both goal = (sharpened (two_messages false) (at_first next_behind_both) NothingLeft, (refl, (sharpened (two_messages false) (at_first next_behind_both) NothingLeft, next_leads goal, refl)), refl)

pub free_is_refused : (goal : ℕ) → IsStepFault (two_messages false) (root_choice (two_messages false)) goal (at_first (root_choice (two_messages false))) (XMirror 0) NoPremise
free_is_refused goal = (refl, (omega arith, λ is. false≢true (ap is_some is.second)))

-- the first may be in the frame of the second, on channel 0
not_aside : KeepsAside next_on_second (at_first next_on_second) 1 0 → ⊥
not_aside (inl both) = false≢true (ap is_some both)
not_aside (inr (inl before)) = omega (arith, before)
not_aside (inr (inr behind)) = omega (arith, behind)

pub behind_free_is_refused : (goal : ℕ) → IsStepFault (two_messages false) next_on_second goal (at_first next_on_second) (XMirror 1) NoPremise
behind_free_is_refused goal = (refl, (omega arith, λ is. not_aside (is.lower 0 (omega arith) refl)))

pub alone_is_refused : (goal : ℕ) → IsStepFault one_message (root_choice one_message) goal (first_facts one_message (root_choice one_message)) (XMirror 0) NoPremise
alone_is_refused goal = (refl, (omega arith, λ is. let same : 0 ≡ 1 = ap (λ (o : Option ℕ). unwrap_or o 0) is.second in omega (arith, same)))
