use Rattle.branch_tree.specs.Branching.{MayTake}
use Rattle.branch_tree.proofs.branching.overlaps.tightest_with.Given as goal

abbrev pub invariant-loop-q : goal.invariant-loop-q
invariant-loop-q l = MayTake l.instance l.choice l.tightest
