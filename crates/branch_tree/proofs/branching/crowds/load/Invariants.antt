use Rattle.std.proofs.Common.{◌*◌, ◌≤◌, length}
use Rattle.ttp_model.specs.declared.limits.TheConstants.{MOST_BYTES}
use Rattle.branch_tree.proofs.branching.crowds.load.Given as goal

abbrev pub invariant-loop-m : goal.invariant-loop-m
invariant-loop-m l = (l.m-index ≤ length l.m-items) × (l.bytes ≤ MOST_BYTES * l.m-index)
