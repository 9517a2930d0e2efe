use Rattle.tt_infer.specs.Added.{TellsOneNodeApart}
use Rattle.tt_infer.proofs.AddedFacts.{adds_first, adds_more}
use Rattle.tt_infer.proofs.read_facts.apart.add_lower.Goals as goal

pub loop-k-init : goal.loop-k-init
loop-k-init c = adds_first (TellsOneNodeApart c.args.facts.now.instance c.args.facts.now.known c.args.m) _

pub loop-k-preserved : goal.loop-k-preserved
loop-k-preserved c = adds_more (TellsOneNodeApart c.args.facts.now.instance c.args.facts.now.known c.args.m) c.loop-k.k _ _ _ c.loop-k.invariant c.in_ok-add_of_node.ensures
