-- What the answer to a step says.
use Rattle.std.specs.Prelude.{◌≡◌, ℕ, IsTrue, IsFalse, Result, Ok, Err}
use Rattle.ttp_model.specs.declared.step.Step.{Step}
use Rattle.ttp_model.specs.Instance.{Instance}
use Rattle.tt_choice.specs.Choice.{Choice}
use Rattle.tt_infer.specs.declared.fault.StepFault.{StepFault}
use Rattle.tt_infer.specs.declared.fault.StepFault.TheVariants.{NoSuchIndex, NoPremise, AlreadyClosed}
use Rattle.sought_plans.specs.Known.{Known}
use Rattle.tt_infer.specs.Table.{rule, IsLawful}

-- why a step is refused: after a closer each, then where what it names isn't there, then where its
-- premise doesn't hold
abbrev pub IsStepFault : Instance → Choice → ℕ → Known → Step → StepFault → Type 0
IsStepFault i c goal f step AlreadyClosed = IsTrue f.closed
IsStepFault i c goal f step NoSuchIndex = IsFalse f.closed × ¬ (rule i c goal f step).there
IsStepFault i c goal f step NoPremise =
    IsFalse f.closed × ((rule i c goal f step).there × ¬ (rule i c goal f step).premise)

-- a step that is taken is lawful, and doesn't follow a closer; one that is refused leaves what is known
abbrev pub Takes : Instance → Choice → ℕ → Known → Step → Known → Result Unit StepFault → Type 0
Takes i c goal f step g (Ok done) = IsFalse f.closed × IsLawful i c goal f step g
Takes i c goal f step g (Err fault) = IsStepFault i c goal f step fault × (g ≡ f)
