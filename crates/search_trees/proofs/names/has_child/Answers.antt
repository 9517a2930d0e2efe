use Rattle.std.proofs.Common.{◌≡◌, arith, sym, ap, ◌∙◌}
use Rattle.search_trees.specs.declared.piece.Piece.{Piece}
use Rattle.std.proofs.lemmas.Bool.{false≢true, ltb-true, lt-ltb}
use Rattle.certificate.specs.Trees.{children}
use Rattle.search_trees.proofs.Finding.{child_by_place, place_of_child, no_child}
use Rattle.search_trees.proofs.names.has_child.Goals as goal

pub returns-in-Some : goal.returns-in-Some
returns-in-Some c =
    let pieces = c.args.pieces.now in
    let p = c.index-pieces-k.result in
    let count : c.children.result ≡ children p.node = c.children.ensures ∙ ap (λ (q : Piece). children q.node) (sym c.index-pieces-k.is) in (
      λ yes. child_by_place pieces c.args.parent.now c.args.index c.in-Some.k p c.in-Some.ensures.none c.index-pieces-k.is c.in-Some.ensures.some
          (omega (arith, ltb-true _ _ yes)),
      λ there. let below =
          place_of_child pieces c.args.parent.now c.args.index c.in-Some.k p c.requires.rising c.in-Some.ensures.none c.index-pieces-k.is
          c.in-Some.ensures.some there in
          lt-ltb c.args.index c.children.result (omega arith),
    )

pub returns-in-None : goal.returns-in-None
returns-in-None c = (
  λ yes. absurd (false≢true yes),
  λ there. absurd (no_child c.args.pieces.now c.args.parent.now c.args.index c.in-None.ensures.none there),
)
