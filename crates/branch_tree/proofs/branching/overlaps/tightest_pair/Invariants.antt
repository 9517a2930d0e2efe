use Rattle.branch_tree.specs.Branching.{MayTake}
use Rattle.branch_tree.proofs.branching.overlaps.tightest_pair.Given as goal

abbrev pub invariant-loop-p : goal.invariant-loop-p
invariant-loop-p l = MayTake l.instance l.choice l.tightest
