use Rattle.std.proofs.Common.{ℕ, ◌<◌, slice_index}
use Rattle.step_logs.specs.Required.{KeepsSteps, HasReceiverSteps}
use Rattle.step_logs.proofs.required.add_receiver_steps.Given as goal

abbrev pub invariant-loop-q : goal.invariant-loop-q
invariant-loop-q l = record {
  kept : KeepsSteps l.initial.steps.items l.steps.items;
  added : (k : ℕ) → k < l.q-index → HasReceiverSteps l.steps.items l.m (slice_index l.receivers k);
}
