use Rattle.std.proofs.Common.{ℕ, ◌<◌}
use Rattle.step_logs.specs.Required.{KeepsSteps, HasProcessSteps}
use Rattle.step_logs.proofs.required.add_process_steps.Given as goal

abbrev pub invariant-loop-p : goal.invariant-loop-p
invariant-loop-p l = record {
  kept : KeepsSteps l.initial.steps.items l.steps.items;
  added : (k : ℕ) → k < l.p → HasProcessSteps l.steps.items k;
}
