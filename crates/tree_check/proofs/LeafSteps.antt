-- A leaf's steps, one after another, up to one that is refused.
use Rattle.std.proofs.Common.{◌≡◌, ℕ, ◌+◌, ◌-◌, ◌^◌, ◌<◌, min, List, [], ◌∷◌, ◌++◌, length, slice_index_or, take, drop, IsFalse, arith, refl, sym, ap, ◌∙◌}
use Rattle.std.proofs.lemmas.List.{take_more, drop_more, length-take, take-append-drop}
use Rattle.ttp_model.specs.declared.step.Step.{Step}
use Rattle.ttp_model.specs.Instance.{Instance}
use Rattle.tt_choice.specs.Choice.{Choice}
use Rattle.tt_infer.specs.declared.fault.StepFault.{StepFault}
use Rattle.sought_plans.specs.Known.{Known, first_facts}
use Rattle.tt_infer.specs.Table.{IsLawful}
use Rattle.tt_infer.specs.Leaves.{Lead}
use Rattle.tt_infer.specs.Answers.{IsStepFault}
use Rattle.tt_infer.proofs.Leaves.{Lead-append}
use Rattle.tree_check.specs.Faults.{IsRefusedAt, told_line}

-- one step more
pub Lead-more : (i : Instance) (c : Choice) (goal : ℕ) (steps : List Step) (k : ℕ) (step : Step) (f g : Known) → k < length steps
    → step ≡ slice_index_or steps k step → Lead i c goal (first_facts i c) (take k steps) f → IsFalse f.closed → IsLawful i c goal f step g
    → Lead i c goal (first_facts i c) (take (k + 1) steps) g
Lead-more i c goal steps k step f g inside here lead still lawful =
    rw (take_more steps k step inside, ← here) (Lead-append i c goal (first_facts i c) (take k steps) (step ∷ []) f g lead (still, (g, lawful, refl)))

-- a step that is refused
pub refused_at : (i : Instance) (c : Choice) (goal : ℕ) (steps : List Step) (k : ℕ) (step : Step) (f : Known) (fault : StepFault) → k < length steps
    → step ≡ slice_index_or steps k step → Lead i c goal (first_facts i c) (take k steps) f → IsStepFault i c goal f step fault → IsRefusedAt i c goal steps k
refused_at i c goal steps k step f fault inside here lead refused = record {
  before = take k steps;
  step = step;
  after = drop (k + 1) steps;
  steps_are =
      sym (take-append-drop k steps) ∙ (ap (λ (rest : List Step). take k steps ++ rest) (drop_more steps k step inside)
      ∙ ap (λ (s : Step). take k steps ++ s ∷ drop (k + 1) steps) (sym here));
  place_is = length-take k steps ∙ omega (arith, inside);
  known = f;
  lead = lead;
  fault = fault;
  refused = refused;
}

-- a line is told further on as it is told first, and then further
pub told_on : (line first more : ℕ) → line ≡ told_line first → min (line + more) (2 ^ 64 - 1) ≡ told_line (first + more)
told_on line first more is = omega (arith, is)
