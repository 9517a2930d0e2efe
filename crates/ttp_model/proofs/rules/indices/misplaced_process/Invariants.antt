use Rattle.std.proofs.Common.{length, ◌<◌, ℕ}
use Rattle.ttp_model.specs.Instance.{node_of}
use Rattle.ttp_model.specs.Parts.{instance_of}
use Rattle.ttp_model.proofs.rules.indices.misplaced_process.Given as goal

abbrev pub invariant-loop-p : goal.invariant-loop-p
invariant-loop-p l = (k : ℕ) → k < l.p → node_of (instance_of l.parts) k < length l.parts.nodes.items
