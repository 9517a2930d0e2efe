use Rattle.std.proofs.Common.{Bool, MatchBool, sym, subst, arith}
use Rattle.std.proofs.lemmas.List.Elements.{AllWithin-more}
use Rattle.search_trees.specs.Order.{HasEachChild, LacksChild}
use Rattle.search_trees.proofs.Has.{holds_at}
use Rattle.search_trees.proofs.Finding.{lacks_child, complete_by_all}
use Rattle.search_trees.proofs.names.lacks_name.Goals as goal

pub returns-then-not-branch : goal.returns-then-not-branch
returns-then-not-branch c =
    let pieces = c.args.pieces.now in
    let p = c.piece-item.result in
    let answer : LacksChild pieces p = subst (λ (b : Bool). MatchBool b (HasEachChild pieces p) (LacksChild pieces p))
    c.if-not-branch.true c.in_ok-has_children.ensures in
    lacks_child pieces p (c.loop-piece.piece-index, omega arith, sym c.piece-item.is) answer

pub loop-piece-preserved : goal.loop-piece-preserved
loop-piece-preserved c =
    let pieces = c.args.pieces.now in
    let p = c.piece-item.result in
    let answer : HasEachChild pieces p = subst (λ (b : Bool). MatchBool b (HasEachChild pieces p) (LacksChild pieces p))
    c.if-not-branch.false c.in_ok-has_children.ensures in
    AllWithin-more (HasEachChild pieces) pieces 0 c.loop-piece.piece-index c.loop-piece.invariant
    (λ d. holds_at (HasEachChild pieces) pieces c.loop-piece.piece-index p d (omega arith) c.piece-item.is answer)

pub returns : goal.returns
returns c =
    complete_by_all c.args.pieces.now c.if-not-has_name.ensures (λ k d low lt. c.loop-piece.invariant k d low (omega arith))
