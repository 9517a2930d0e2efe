use Rattle.std.proofs.Common.{sym, ◌∙◌, arith}
use Rattle.std.proofs.lemmas.Bool.{false≢true}
use Rattle.std.proofs.lemmas.List.Elements.{AllWithin-more}
use Rattle.search_trees.specs.declared.piece.Piece.{Piece}
use Rattle.search_trees.specs.Order.{IsWanted}
use Rattle.search_trees.proofs.Has.{holds_at}
use Rattle.search_trees.proofs.Finding.{stray_at, own_by_all}
use Rattle.search_trees.proofs.names.has_stray_name.Goals as goal

pub returns-then-not-branch : goal.returns-then-not-branch
returns-then-not-branch c =
    let pieces = c.args.pieces.now in
    stray_at pieces c.piece-item.result (c.loop-piece.piece-index, omega arith, sym c.piece-item.is)
    (λ wanted. false≢true (sym c.if-not-branch.true ∙ c.in_ok-is_in_place.ensures.1 wanted))

pub loop-piece-preserved : goal.loop-piece-preserved
loop-piece-preserved c =
    let pieces = c.args.pieces.now in
    let p = c.piece-item.result in
    let wanted : IsWanted pieces p.name = c.in_ok-is_in_place.ensures.0 c.if-not-branch.false in
    AllWithin-more (λ (q : Piece). IsWanted pieces q.name) pieces 0 c.loop-piece.piece-index c.loop-piece.invariant
    (λ d. holds_at (λ (q : Piece). IsWanted pieces q.name) pieces c.loop-piece.piece-index p d (omega arith) c.piece-item.is wanted)

pub returns : goal.returns
returns c = own_by_all c.args.pieces.now (λ k d low lt. c.loop-piece.invariant k d low (omega arith))
