use Rattle.std.proofs.Common.{◌+◌, ◌-◌, ◌≤◌, ◌<◌, length, arith, rules}
use Rattle.certificate.specs.Trees.{children}
use Rattle.side_by_side.proofs.LeftBehind.{skips_inside, skips_next, skips_room}
use Rattle.side_by_side.proofs.passing.behind_tree.Goals as goal

pub overflow_add-due : goal.overflow_add-due
overflow_add-due c =
    let nodes = c.args.nodes.now in
    let s = c.nodes.invariant.skips c.requires.0 c.requires.1 c.requires.2.0 c.requires.2.1 in
    let inside = skips_inside nodes c.nodes.at c.nodes.due c.requires.1 s (omega (arith, c.nodes-test.true)) in
    let next = skips_next nodes c.nodes.at c.nodes.due c.index-nodes-at.result c.requires.1 inside c.index-nodes-at.is (omega (arith, c.nodes-test.true)) s in
    let room = skips_room nodes (c.nodes.at + 1) (c.nodes.due - 1 + children c.index-nodes-at.result) c.requires.1 next (omega (arith, inside)) in
    let known : c.nodes.due - 1 + c.children-children.result ≤ length nodes = omega (arith, room, c.children-children.ensures) in
    search (rules, known)

pub nodes-preserved : goal.nodes-preserved
nodes-preserved c =
    let nodes = c.args.nodes.now in
    let first = c.nodes.invariant.skips c.requires.0 c.requires.1 c.requires.2.0 c.requires.2.1 in
    let some : 0 < c.nodes.due = omega (arith, c.nodes-test.true) in
    let inside = skips_inside nodes c.nodes.at c.nodes.due c.requires.1 first some in
    record {
      inside = omega (arith, inside);
      skips = λ tree more are left.
          rw c.children-children.ensures
          (skips_next nodes c.nodes.at c.nodes.due c.index-nodes-at.result more inside c.index-nodes-at.is some (c.nodes.invariant.skips tree more are left));
    }
