-- Why a step is refused, by what is known there. Own profile.
use Rattle.std.specs.Prelude.{◌≡◌, ℕ, ◌∷◌, ◌++◌, IsFalse, IsTrue, List, length}
use Rattle.ttp_model.specs.declared.step.Step.{Step}
use Rattle.ttp_model.specs.Instance.{Instance}
use Rattle.tt_choice.specs.Choice.{Choice}
use Rattle.sought_plans.specs.Known.{Known, first_facts}
use Rattle.tt_infer.specs.Leaves.{Lead}
use Rattle.tt_infer.specs.Table.{rule}
use Rattle.certificate_reasons.specs.declared.refused.Refusal.{Refusal}
use Rattle.certificate_reasons.specs.declared.refused.Refusal.TheVariants as why
use Rattle.certificate_reasons.specs.declared.refused.RefusedStep.{RefusedStep}
use Rattle.certificate_reasons.specs.Absent.{IsAbsent}
use Rattle.certificate_reasons.specs.Premises.{IsLacking}
use Rattle.certificate_reasons.specs.Rules.{rule_of}

-- no plan is left, else something that the step names isn't there, else what it asks for isn't known
abbrev pub IsRefusal : Instance → Choice → ℕ → Known → Step → Refusal → Type 0
IsRefusal i c goal f step why.Closed = IsTrue f.closed
IsRefusal i c goal f step (why.Absent x) = IsFalse f.closed × IsAbsent i step x
IsRefusal i c goal f step (why.Lacking x) = IsFalse f.closed × (rule i c goal f step).there × IsLacking i c f step x

-- after lawful steps the one at this place, from 0, is refused
pub record IsRefusedStep (i : Instance) (c : Choice) (goal : ℕ) (steps : List Step) (place : ℕ) (r : RefusedStep) : Type 0 where
  pub before : List Step
  pub step : Step
  pub after : List Step
  pub steps_are : steps ≡ before ++ step ∷ after
  pub place_is : length before ≡ place
  pub known : Known
  pub lead : Lead i c goal (first_facts i c) before known
  pub rule_is : r.rule ≡ rule_of step
  pub why_is : IsRefusal i c goal known step r.why
