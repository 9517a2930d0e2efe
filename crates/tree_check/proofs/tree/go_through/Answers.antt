use Rattle.std.proofs.Common.{◌∙◌, [], ◌∷◌, ap, refl, subst}
use Rattle.std.proofs.lemmas.Result.{err_from_is_err_and}
use Rattle.tt_choice.specs.Branches.{root_choice}
use Rattle.tt_infer.specs.Facts.{Facts}
use Rattle.certificate.specs.Trees.{Trees, preorder}
use Rattle.certificate.specs.Lines.{line_of, node_lines}
use Rattle.certificate.proofs.TreeLists.{trees_of-preorder}
use Rattle.tree_check.specs.Proofs.{AreProofs}
use Rattle.tree_check.specs.Seen.{TellsFirst}
use Rattle.tree_check.proofs.LeafSteps.{told_on}
use Rattle.tree_check.proofs.Nodes.{gone_first, gone_next, gone_there, gone_on, gone_fails, gone_all, line_after}
use Rattle.tree_check.proofs.tree.go_through.Goals as goal

pub loop-k-init : goal.loop-k-init
loop-k-init c =
    let cert = c.args.cert.now in
    record {
      gone = gone_first c.args.instance.now cert (preorder cert.tree) c.in_ok-walk.walk c.nodes-nodes.ensures.tree refl c.in_ok-walk.ensures;
      room = ap (λ (f : Facts). f.instance) c.in_ok-room.ensures;
      line = refl;
    }

pub go_on-requires : goal.go_on-requires
go_on-requires c =
    let cert = c.args.cert.now in
    let inside = rw c.nodes-nodes.ensures.nodes at c.loop-k-test.true in
    let here = rw c.nodes-nodes.ensures.nodes at c.index-nodes-k.is in
    gone_next c.args.instance.now cert.low (preorder cert.tree) c.loop-k.k c.index-nodes-k.result c.loop-k.walk inside here c.loop-k.invariant.gone

pub judge-requires-clause-walk : goal.judge-requires-clause-walk
judge-requires-clause-walk c =
    let cert = c.args.cert.now in
    let inside = rw c.nodes-nodes.ensures.nodes at c.loop-k-test.true in
    let here = rw c.nodes-nodes.ensures.nodes at c.index-nodes-k.is in
    gone_there c.args.instance.now cert.low (preorder cert.tree) c.loop-k.k c.index-nodes-k.result c.loop-k.walk inside here c.loop-k.invariant.gone
    c.go_on.new.self c.in_ok-go_on.ensures

pub returns-in_err-room-2-clause-err : goal.returns-in_err-room-2-clause-err
returns-in_err-room-2-clause-err c =
    let i = c.args.instance.now in
    let cert = c.args.cert.now in
    let nodes = preorder cert.tree in
    let fault = c.in_err-room-2.field-0.0 in
    let inside = rw c.nodes-nodes.ensures.nodes at c.loop-k-test.true in
    let here = rw c.nodes-nodes.ensures.nodes at c.index-nodes-k.is in
    let fails = gone_fails i cert.low nodes c.loop-k.k c.index-nodes-k.result c.loop-k.walk inside here c.loop-k.invariant.gone c.go_on.new.self
    c.in_ok-go_on.ensures c.loop-k.line fault c.loop-k.invariant.line (rw c.low-low.ensures at c.in_err-room-2.ensures.err) in
    let p = err_from_is_err_and c.from_residual-in_err-room-2.result c.from_residual-in_err-room-2.ensures.1 in
    rw (p.1, p.2) (subst (λ (trees : Trees). TellsFirst i cert.low trees fault) (trees_of-preorder 1 cert.tree c.nodes-nodes.ensures.tree.one) fails)

pub loop-k-preserved : goal.loop-k-preserved
loop-k-preserved c =
    let cert = c.args.cert.now in
    let nodes = preorder cert.tree in
    let inside = rw c.nodes-nodes.ensures.nodes at c.loop-k-test.true in
    let here = rw c.nodes-nodes.ensures.nodes at c.index-nodes-k.is in
    record {
      gone =
          gone_on c.args.instance.now cert.low nodes c.loop-k.k c.index-nodes-k.result c.loop-k.walk inside here c.loop-k.invariant.gone
          c.go_on.new.self c.in_ok-go_on.ensures c.judge.new.walk (rw c.low-low.ensures at c.in_ok-room-2.ensures.suits) c.in_ok-room-2.ensures.below;
      room = c.in_ok-room-2.ensures.room;
      line =
          rw (line_after nodes c.loop-k.k c.index-nodes-k.result inside here) (c.saturating_add-line.ensures ∙ rw c.lines.ensures
          (told_on c.loop-k.line (line_of nodes c.loop-k.k) (node_lines c.index-nodes-k.result) c.loop-k.invariant.line));
    }

pub returns-clause-ok : goal.returns-clause-ok
returns-clause-ok c =
    let i = c.args.instance.now in
    let cert = c.args.cert.now in
    let past = rw c.nodes-nodes.ensures.nodes at c.loop-k-test.false in
    let proved = gone_all i cert.low (preorder cert.tree) c.loop-k.k c.loop-k.walk past c.loop-k.invariant.gone in
    subst (AreProofs i cert.low (root_choice i ∷ [])) (trees_of-preorder 1 cert.tree c.nodes-nodes.ensures.tree.one) proved
