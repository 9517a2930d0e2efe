use Rattle.std.proofs.Common.{◌≡◌}
use Rattle.branch_tree.proofs.branching.orders.closing_pair.Given as goal

abbrev pub invariant-loop-pair : goal.invariant-loop-pair
invariant-loop-pair l = l.reached ≡ l.initial.reached
