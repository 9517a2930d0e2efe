use Rattle.std.proofs.Common.{◌+◌, ◌∙◌, drop, refl, subst, sym, take}
use Rattle.std.proofs.lemmas.List.{take_all}
use Rattle.std.proofs.lemmas.Result.{err_from_is_err_and}
use Rattle.certificate.specs.Lines.{line_of, node_lines}
use Rattle.certificate.specs.Trees.{preorder}
use Rattle.tree_check.proofs.LeafSteps.{told_on}
use Rattle.tree_check.proofs.Nodes.{line_after}
use Rattle.planner.specs.Replay.{GoesThrough}
use Rattle.planner.proofs.Through.{fault_here, next_here, seen_more, through_more, through_none}
use Rattle.planner.proofs.replay.Replay.go_through.Goals as goal

pub loop-k-init : goal.loop-k-init
loop-k-init c = record { through = through_none c.args.instance.now c.args.self.now; line = refl }

pub go_on-requires : goal.go_on-requires
go_on-requires c =
    let nodes = preorder c.args.cert.now.tree in
    let inside = rw c.nodes-nodes.ensures.nodes at c.loop-k-test.true in
    let here = rw c.nodes-nodes.ensures.nodes at c.index-nodes-k.is in
    let s = c.requires in (
      s.0,
      s.1,
      s.2,
      drop (c.loop-k.k + 1) nodes,
      next_here nodes c.loop-k.k c.index-nodes-k.result inside here c.args.instance.now s.0 s.1 s.2
          c.args.self.now c.loop-k.self c.loop-k.invariant.through s.3,
    )

-- one node more was gone through, and its lines are behind
pub loop-k-preserved : goal.loop-k-preserved
loop-k-preserved c =
    let i = c.args.instance.now in
    let nodes = preorder c.args.cert.now.tree in
    let old = c.args.self.now in
    let new = c.go_on.new.self in
    let one = c.index-nodes-k.result in
    let k = c.loop-k.k in
    let inside = rw c.nodes-nodes.ensures.nodes at c.loop-k-test.true in
    let here = rw c.nodes-nodes.ensures.nodes at c.index-nodes-k.is in
    record {
      through = subst (GoesThrough i old new) (sym (seen_more nodes k one inside here))
          (through_more i old c.loop-k.self new (take k nodes) one c.loop-k.invariant.through c.in_ok-go_on.ensures.on);
      line =
          rw (line_after nodes k one inside here) (c.saturating_add-line.ensures ∙ rw c.lines.ensures
          (told_on c.loop-k.line (line_of nodes k) (node_lines one) c.loop-k.invariant.line));
    }

pub returns-clause-through : goal.returns-clause-through
returns-clause-through c =
    let nodes = preorder c.args.cert.now.tree in
    let past = rw c.nodes-nodes.ensures.nodes at c.loop-k-test.false in
    subst (GoesThrough c.args.instance.now c.args.self.now c.loop-k.self) (take_all c.loop-k.k nodes past) c.loop-k.invariant.through

pub returns-in_err-go_on-clause-err : goal.returns-in_err-go_on-clause-err
returns-in_err-go_on-clause-err c =
    let cert = c.args.cert.now in
    let nodes = preorder cert.tree in
    let one = c.index-nodes-k.result in
    let inside = rw c.nodes-nodes.ensures.nodes at c.loop-k-test.true in
    let here = rw c.nodes-nodes.ensures.nodes at c.index-nodes-k.is in
    let told = c.loop-k.invariant.line in
    let is = fault_here nodes c.loop-k.k one inside here c.args.instance.now cert c.loop-k.line c.in_err-go_on.field-0.0 refl told c.in_err-go_on.ensures.err in
    let p = err_from_is_err_and c.from_residual.result c.from_residual.ensures.1 in
    rw (p.1, p.2) is
