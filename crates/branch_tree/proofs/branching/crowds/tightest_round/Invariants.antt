use Rattle.std.specs.Prelude.{IfSome}
use Rattle.branch_tree.specs.Branching.{IsBranching}
use Rattle.branch_tree.proofs.branching.crowds.tightest_round.Given as goal

abbrev pub invariant-loop-m : goal.invariant-loop-m
invariant-loop-m l = IfSome l.worst (λ crowd. IsBranching l.instance l.choice crowd.kind)
