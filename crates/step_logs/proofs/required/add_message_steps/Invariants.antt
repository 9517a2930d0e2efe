use Rattle.std.proofs.Common.{ℕ, ◌<◌, Contains}
use Rattle.ttp_model.specs.Instance.{message_at}
use Rattle.step_logs.specs.Required.{KeepsSteps, HasReceiverSteps}
use Rattle.step_logs.proofs.required.add_message_steps.Given as goal

abbrev pub invariant-loop-m : goal.invariant-loop-m
invariant-loop-m l = record {
  kept : KeepsSteps l.initial.steps.items l.steps.items;
  added : (k q : ℕ) → k < l.m → Contains (message_at l.instance k).receivers q → HasReceiverSteps l.steps.items k q;
}
