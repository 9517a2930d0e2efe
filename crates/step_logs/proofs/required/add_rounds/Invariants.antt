use Rattle.std.proofs.Common.{ℕ, ◌<◌}
use Rattle.step_logs.specs.Required.{KeepsSteps, HasRoundSteps}
use Rattle.step_logs.proofs.required.add_rounds.Given as goal

abbrev pub invariant-loop-m : goal.invariant-loop-m
invariant-loop-m l = record {
  kept : KeepsSteps l.initial.steps.items l.steps.items;
  added : (k : ℕ) → k < l.m → HasRoundSteps l.instance l.choice l.steps.items k;
}
