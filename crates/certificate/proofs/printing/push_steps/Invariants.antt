use Rattle.std.proofs.Common.{◌≡◌, ◌++◌, take, All}
use Rattle.std.specs.List.{flat_map}
use Rattle.certificate.specs.Spelling.{step_text, StepHasText}
use Rattle.certificate.proofs.printing.push_steps.Given as goal

abbrev pub invariant-loop-step : goal.invariant-loop-step
invariant-loop-step l = (l.text.items ≡ l.initial.text.items ++ flat_map step_text (take l.step-index l.steps)) × All StepHasText (take l.step-index l.steps)
