use Rattle.std.proofs.Common.{length, ◌<◌, ℕ}
use Rattle.rates_model.specs.Rates.{node_of}
use Rattle.rates_model.specs.Parts.{rates_of}
use Rattle.rates_model.proofs.rules.indices.misplaced_process.Given as goal

abbrev pub invariant-loop-p : goal.invariant-loop-p
invariant-loop-p l = (k : ℕ) → k < l.p → node_of (rates_of l.parts) k < length l.parts.nodes.items
