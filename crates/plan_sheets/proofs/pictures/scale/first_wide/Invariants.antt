use Rattle.std.proofs.Common.{◌≡◌, drop}
use Rattle.plan_sheets.specs.Scale.{first_wide}
use Rattle.plan_sheets.proofs.pictures.scale.first_wide.Given as goal

abbrev pub invariant-loop-step : goal.invariant-loop-step
invariant-loop-step l = first_wide l.canvas l.steps ≡ first_wide l.canvas (drop l.step-index l.steps)
