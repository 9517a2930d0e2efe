use Rattle.std.proofs.Common.{◌≡◌, ◌++◌, take}
use Rattle.step_logs.proofs.copies.push_copies.Given as goal

abbrev pub invariant-loop-step : goal.invariant-loop-step
invariant-loop-step l = l.copies.items ≡ l.initial.copies.items ++ take l.step-index l.steps
