use Rattle.std.proofs.Common.{◌≡◌, map}
use Rattle.search_trees.specs.declared.piece.Piece.{Piece}
use Rattle.search_trees.proofs.gathering.nodes_of.Given as goal

abbrev pub invariant-loop-piece : goal.invariant-loop-piece
invariant-loop-piece l = l.nodes.items ≡ map (λ (p : Piece). p.node) l.yielded
