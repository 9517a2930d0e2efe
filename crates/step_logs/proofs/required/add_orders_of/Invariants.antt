use Rattle.std.proofs.Common.{ℕ, ◌<◌, Contains, IsTrue}
use Rattle.ttp_model.specs.declared.step.Step.TheVariants.{EsBefore}
use Rattle.tt_choice.specs.Choice.{is_before}
use Rattle.step_logs.specs.Required.{KeepsSteps}
use Rattle.step_logs.proofs.required.add_orders_of.Given as goal

abbrev pub invariant-loop-q : goal.invariant-loop-q
invariant-loop-q l = record {
  kept : KeepsSteps l.initial.steps.items l.steps.items;
  added : (k : ℕ) → k < l.q → IsTrue (is_before l.choice l.p k) → Contains l.steps.items (EsBefore l.p k);
}
