use Rattle.std.proofs.Common.{◌≤◌, ◌<◌, ℕ}
use Rattle.ttp_model.specs.declared.limits.TheConstants.{MOST_BYTES}
use Rattle.ttp_model.specs.Instance.{message_at}
use Rattle.ttp_model.specs.Parts.{instance_of}
use Rattle.ttp_model.proofs.rules.ranges.missized_message.Given as goal

abbrev pub invariant-loop-m : goal.invariant-loop-m
invariant-loop-m l = (k : ℕ) → k < l.m → (1 ≤ (message_at (instance_of l.parts) k).bytes) × ((message_at (instance_of l.parts) k).bytes ≤ MOST_BYTES)
