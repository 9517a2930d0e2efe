use Rattle.std.proofs.Common.{◌≡◌, arith, refl, sym, ap, subst, ◌∙◌}
use Rattle.std.proofs.lemmas.Grind.{common_steps}
use Rattle.certificate.specs.Trees.{trees_of, IsTree}
use Rattle.certificate.proofs.TreeLists.{trees_of-preorder}
use Rattle.planner.proofs.raised.copied.Goals as goal

pub new-requires : goal.new-requires
new-requires c =
    let tree = c.args.cert.now.tree in
    let is : IsTree tree = c.nodes-nodes.ensures.tree in
    let copies : c.loop-node.copies.items ≡ c.nodes-nodes.result.now = grind (arith, common_steps) in
    subst IsTree (sym (ap trees_of (copies ∙ c.nodes-nodes.ensures.nodes) ∙ trees_of-preorder 1 tree is.one)) is

pub returns : goal.returns
returns c =
    let tree = c.args.cert.now.tree in
    let is : IsTree tree = c.nodes-nodes.ensures.tree in
    let copies : c.loop-node.copies.items ≡ c.nodes-nodes.result.now = grind (arith, common_steps) in
    let all : trees_of c.loop-node.copies.items ≡ tree = ap trees_of (copies ∙ c.nodes-nodes.ensures.nodes) ∙ trees_of-preorder 1 tree is.one in
    rw (c.new.ensures, c.version.ensures, c.low.ensures, all) refl
