use Rattle.tt_infer.specs.Reads.{OfSome}
use Rattle.tt_infer.specs.Added.{AddsFacts, OrdersNext}
use Rattle.tt_infer.proofs.read_facts.rings.add_pairs.Given as goal

abbrev pub invariant-loop-k : goal.invariant-loop-k
invariant-loop-k l = AddsFacts (OfSome l.k (OrdersNext l.instance l.ring)) l.fn.reads.items l.reads.items
