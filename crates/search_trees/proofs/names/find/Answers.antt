use Rattle.std.proofs.Common.{rules}
use Rattle.std.proofs.lemmas.Fn.{always_returns_same}
use Rattle.search_trees.specs.declared.piece.Piece.{Piece}
use Rattle.search_trees.specs.Order.{compare}
use Rattle.search_trees.proofs.Finding.{found_at, not_found}
use Rattle.search_trees.proofs.names.find.Goals as goal

pub returns-in-Ok-clause-some : goal.returns-in-Ok-clause-some
returns-in-Ok-clause-some c =
    found_at c.args.pieces.now c.args.name.now c.in-Ok.k
    (c.in-Ok.ensures.position (λ (p : Piece). compare p.name c.args.name.now) (always_returns_same _ _ _ (λ a r g k. search rules)))

pub returns-in-Err-clause-none : goal.returns-in-Err-clause-none
returns-in-Err-clause-none c =
    not_found c.args.pieces.now c.args.name.now c.in-Err.field-0 c.requires
    (c.in-Err.ensures.position (λ (p : Piece). compare p.name c.args.name.now) (always_returns_same _ _ _ (λ a r g k. search rules)))
