use Rattle.std.proofs.Common.{ℕ, ◌<◌, Contains, IsTrue}
use Rattle.ttp_model.specs.declared.step.Step.TheVariants.{EsBefore}
use Rattle.tt_choice.specs.Choice.{is_before}
use Rattle.step_logs.specs.Required.{KeepsSteps}
use Rattle.step_logs.proofs.required.add_orders.Given as goal

abbrev pub invariant-loop-p : goal.invariant-loop-p
invariant-loop-p l = record {
  kept : KeepsSteps l.initial.steps.items l.steps.items;
  added : (k q : ℕ) → k < l.p → q < l.count → IsTrue (is_before l.choice k q) → Contains l.steps.items (EsBefore k q);
}
