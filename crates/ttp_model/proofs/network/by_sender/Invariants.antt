use Rattle.std.proofs.Common.{length}
use Rattle.ttp_model.specs.Parts.{instance_of}
use Rattle.ttp_model.specs.Network.{is_sent_by}
use Rattle.ttp_model.proofs.NetworkLists.{ArePairs}
use Rattle.ttp_model.proofs.network.by_sender.Given as goal

abbrev pub invariant-loop-m : goal.invariant-loop-m
invariant-loop-m l = ArePairs (length l.parts.processes.items) (is_sent_by (instance_of l.parts)) l.m l.pairs.items
