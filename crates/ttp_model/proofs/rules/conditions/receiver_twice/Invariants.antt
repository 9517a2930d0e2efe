use Rattle.std.proofs.Common.{◌<◌, ℕ}
use Rattle.ttp_model.specs.Parts.{instance_of}
use Rattle.ttp_model.specs.Rules.{ReceivesOnce}
use Rattle.ttp_model.proofs.rules.conditions.receiver_twice.Given as goal

abbrev pub invariant-loop-m : goal.invariant-loop-m
invariant-loop-m l = (k : ℕ) → k < l.m → ReceivesOnce (instance_of l.parts) k
