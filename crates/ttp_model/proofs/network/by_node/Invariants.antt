use Rattle.std.proofs.Common.{length}
use Rattle.ttp_model.specs.Parts.{instance_of}
use Rattle.ttp_model.specs.Network.{is_process_of}
use Rattle.ttp_model.proofs.NetworkLists.{ArePairs}
use Rattle.ttp_model.proofs.network.by_node.Given as goal

abbrev pub invariant-loop-p : goal.invariant-loop-p
invariant-loop-p l = ArePairs (length l.parts.nodes.items) (is_process_of (instance_of l.parts)) l.p l.pairs.items
