use Rattle.std.proofs.Common.{ℕ, ◌<◌}
use Rattle.tt_choice.specs.Choice.{IsOrdered}
use Rattle.branch_tree.proofs.branching.rest.unordered_pair.Given as goal

abbrev pub invariant-loop-p : goal.invariant-loop-p
invariant-loop-p l = (p q : ℕ) → q < p → p < l.p → IsOrdered l.instance l.choice p q
