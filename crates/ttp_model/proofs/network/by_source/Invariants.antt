use Rattle.std.proofs.Common.{length}
use Rattle.ttp_model.specs.Parts.{instance_of}
use Rattle.ttp_model.specs.Network.{is_message_of}
use Rattle.ttp_model.proofs.NetworkLists.{ArePairs}
use Rattle.ttp_model.proofs.network.by_source.Given as goal

abbrev pub invariant-loop-m : goal.invariant-loop-m
invariant-loop-m l = ArePairs (length l.parts.nodes.items) (is_message_of (instance_of l.parts)) l.m l.pairs.items
