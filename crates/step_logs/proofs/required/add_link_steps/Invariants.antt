use Rattle.std.proofs.Common.{ℕ, ◌<◌, Contains}
use Rattle.ttp_model.specs.declared.step.Step.TheVariants.{EsLink}
use Rattle.step_logs.specs.Required.{KeepsSteps}
use Rattle.step_logs.proofs.required.add_link_steps.Given as goal

abbrev pub invariant-loop-l : goal.invariant-loop-l
invariant-loop-l l = record {
  kept : KeepsSteps l.initial.steps.items l.steps.items;
  added : (k : ℕ) → k < l.l → Contains l.steps.items (EsLink k);
}
