-- What the steps of a leaf say, each by what is known before and after it. Own profile.
use Rattle.std.specs.Prelude.{◌≡◌, ◌↔◌, ℕ, ◌-◌, IsTrue, List, [], ◌∷◌, length, take}
use Rattle.std.specs.List.{Any}
use Rattle.ttp_model.specs.declared.step.Leaf.{Leaf}
use Rattle.ttp_model.specs.declared.step.Step.{Step}
use Rattle.ttp_model.specs.Instance.{Instance}
use Rattle.tt_choice.specs.Choice.{Choice}
use Rattle.sought_plans.specs.Known.{Known, first_facts}
use Rattle.tt_infer.specs.Table.{IsDominance, IsLawful}
use Rattle.certificate_reasons.specs.declared.leaves.TheConstants.{MOST_STEPS}
use Rattle.certificate_reasons.specs.declared.leaves.LeafReason.{LeafReason}
use Rattle.certificate_reasons.specs.declared.steps.ToldStep.{ToldStep}
use Rattle.certificate_reasons.specs.Steps.{IsToldStep}

-- lawful steps lead from what is known to what is known after them, and each is told
abbrev pub AreStepsTold : Instance → Choice → ℕ → Known → List Step → Known → List ToldStep → Type 0
AreStepsTold i c goal f [] g [] = g ≡ f
AreStepsTold i c goal f [] g (x ∷ told) = ⊥
AreStepsTold i c goal f (step ∷ steps) g [] = ⊥
AreStepsTold i c goal f (step ∷ steps) g (x ∷ told) =
    (next : Known) × IsLawful i c goal f step next × IsToldStep i c goal f next step x × AreStepsTold i c goal next steps g told

-- the first of them
abbrev pub AreFirstTold : Instance → Choice → ℕ → Known → List Step → List ToldStep → Type 0
AreFirstTold i c goal f steps told = (g : Known) × AreStepsTold i c goal f (take MOST_STEPS steps) g told

-- a leaf that closes a choice: what is supposed, where some step is true of settled plans alone too, its first steps, and how many there
-- are more
pub record IsLeafReason (i : Instance) (c : Choice) (leaf : Leaf) (r : LeafReason) : Type 0 where
  pub goal_is : r.goal ≡ leaf.goal
  pub settled_is : IsTrue r.settled ↔ Any IsDominance leaf.steps
  pub steps_are : AreFirstTold i c leaf.goal (first_facts i c) leaf.steps r.steps.items
  pub more_is : r.more ≡ length leaf.steps - MOST_STEPS
