use Rattle.branch_tree.specs.Branching.{OrderedBelow}
use Rattle.branch_tree.proofs.branching.rest.unordered_with.Given as goal

abbrev pub invariant-loop-q : goal.invariant-loop-q
invariant-loop-q l = OrderedBelow l.instance l.choice l.p l.q
