use Rattle.std.proofs.Common.{◌≤◌}
use Rattle.branch_tree.specs.Branching.{MayBranch}
use Rattle.branch_tree.proofs.branching.empty_halves.empty_half.Given as goal

abbrev pub invariant-loop-m : goal.invariant-loop-m
invariant-loop-m l = (l.crowd ≤ l.m) × MayBranch l.instance l.choice l.first
