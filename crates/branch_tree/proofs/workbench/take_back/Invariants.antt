use Rattle.std.proofs.Common.{◌≡◌, length}
use Rattle.branch_tree.proofs.workbench.take_back.Given as goal

abbrev pub invariant-loop-kept : goal.invariant-loop-kept
invariant-loop-kept l = record {
  instance : l.kept.instance ≡ l.initial.kept.instance;
  goal : l.kept.goal ≡ l.initial.kept.goal;
}

abbrev pub decreases-loop-kept : goal.decreases-loop-kept
decreases-loop-kept l = length l.kept.kept
