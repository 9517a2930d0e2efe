use Rattle.std.proofs.Common.{All, ◌<◌, ℕ}
use Rattle.ttp_model.specs.Instance.{message_at}
use Rattle.ttp_model.specs.Parts.{instance_of}
use Rattle.ttp_model.specs.Rules.{IsProcess}
use Rattle.ttp_model.proofs.rules.indices.dangling_message.Given as goal

abbrev pub invariant-loop-m : goal.invariant-loop-m
invariant-loop-m l = (k : ℕ) → k < l.m → IsProcess (instance_of l.parts) (message_at (instance_of l.parts) k).sender × All (IsProcess (instance_of l.parts)) (message_at (instance_of l.parts) k).receivers
