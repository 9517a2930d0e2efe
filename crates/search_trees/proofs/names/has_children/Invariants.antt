use Rattle.std.proofs.Common.{ℕ, ◌<◌, Contains}
use Rattle.search_trees.specs.Name.{child_name}
use Rattle.search_trees.specs.Pieces.{names_of}
use Rattle.search_trees.proofs.names.has_children.Given as goal

abbrev pub invariant-loop-k : goal.invariant-loop-k
invariant-loop-k l = (j : ℕ) → j < l.k → Contains (names_of l.pieces) (child_name l.piece.name j)
