use Rattle.std.proofs.Common.{◌≡◌, take}
use Rattle.branch_tree.proofs.workbench.go_on.Given as goal

abbrev pub invariant-loop-k : goal.invariant-loop-k
invariant-loop-k l = record {
  instance : l.kept.instance ≡ l.initial.kept.instance;
  goal : l.kept.goal ≡ l.initial.kept.goal;
  made : l.kept.decisions ≡ take l.k l.decisions;
}
