use Rattle.std.specs.List.{AllWithin}
use Rattle.search_trees.specs.declared.piece.Piece.{Piece}
use Rattle.search_trees.specs.Gathering.{HasGoal}
use Rattle.search_trees.proofs.gathering.has_low_leaf.Given as goal

abbrev pub invariant-loop-piece : goal.invariant-loop-piece
invariant-loop-piece l = AllWithin (λ (p : Piece). HasGoal l.low p.node) l.pieces 0 l.piece-index
