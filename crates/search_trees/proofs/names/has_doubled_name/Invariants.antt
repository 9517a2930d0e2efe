use Rattle.std.proofs.Common.{ℕ, ◌<◌}
use Rattle.search_trees.specs.Order.{IsSameAsBefore}
use Rattle.search_trees.proofs.names.has_doubled_name.Given as goal

abbrev pub invariant-loop-k : goal.invariant-loop-k
invariant-loop-k l = (j : ℕ) → 0 < j → j < l.k → ¬ IsSameAsBefore l.pieces j
