use Rattle.tt_infer.specs.Reads.{OfSome}
use Rattle.tt_infer.specs.Added.{AddsFacts, TellsOneNodeApart}
use Rattle.tt_infer.proofs.read_facts.apart.add_lower.Given as goal

abbrev pub invariant-loop-k : goal.invariant-loop-k
invariant-loop-k l = AddsFacts (OfSome l.k (TellsOneNodeApart l.facts.instance l.facts.known l.m)) l.fn.reads.items l.reads.items
