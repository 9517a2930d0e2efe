use Rattle.std.specs.List.{AllWithin}
use Rattle.search_trees.specs.declared.piece.Piece.{Piece}
use Rattle.search_trees.specs.Order.{IsWanted}
use Rattle.search_trees.proofs.names.has_stray_name.Given as goal

abbrev pub invariant-loop-piece : goal.invariant-loop-piece
invariant-loop-piece l = AllWithin (λ (p : Piece). IsWanted l.pieces p.name) l.pieces 0 l.piece-index
