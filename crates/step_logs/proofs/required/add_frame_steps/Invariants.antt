use Rattle.std.proofs.Common.{ℕ, ◌+◌, ◌<◌, Contains}
use Rattle.ttp_model.specs.declared.step.Step.TheVariants.{XChannel}
use Rattle.step_logs.specs.Required.{KeepsSteps}
use Rattle.step_logs.proofs.required.add_frame_steps.Given as goal

abbrev pub invariant-loop-k : goal.invariant-loop-k
invariant-loop-k l = record {
  kept : KeepsSteps l.initial.steps.items l.steps.items;
  added : (j : ℕ) → j < l.k → Contains l.steps.items (XChannel j l.n l.round (l.round + 1));
}
