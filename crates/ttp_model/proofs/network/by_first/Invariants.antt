use Rattle.std.proofs.Common.{length}
use Rattle.ttp_model.specs.Parts.{instance_of}
use Rattle.ttp_model.specs.Network.{leads_from}
use Rattle.ttp_model.proofs.NetworkLists.{ArePairs}
use Rattle.ttp_model.proofs.network.by_first.Given as goal

abbrev pub invariant-loop-l : goal.invariant-loop-l
invariant-loop-l l = ArePairs (length l.parts.processes.items) (leads_from (instance_of l.parts)) l.l l.pairs.items
