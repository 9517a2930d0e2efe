use Rattle.std.specs.List.{AllWithin}
use Rattle.search_trees.specs.Order.{HasEachChild}
use Rattle.search_trees.proofs.names.lacks_name.Given as goal

abbrev pub invariant-loop-piece : goal.invariant-loop-piece
invariant-loop-piece l = AllWithin (HasEachChild l.pieces) l.pieces 0 l.piece-index
