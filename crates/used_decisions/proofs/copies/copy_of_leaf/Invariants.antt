use Rattle.std.proofs.Common.{◌≡◌, take}
use Rattle.used_decisions.proofs.copies.copy_of_leaf.Given as goal

abbrev pub invariant-loop-step : goal.invariant-loop-step
invariant-loop-step l = l.copies.items ≡ take l.step-index l.steps
