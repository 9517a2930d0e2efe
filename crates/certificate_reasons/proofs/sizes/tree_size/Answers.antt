-- The nodes are those of the tree.
use Rattle.certificate.proofs.TreeLists.{trees_of-preorder}
use Rattle.certificate_reasons.proofs.sizes.tree_size.Goals as goal

pub returns : goal.returns
returns c =
    let tree = c.args.cert.now.tree in
    let nodes = c.nodes-nodes.ensures.nodes in
    let same = trees_of-preorder 1 tree c.nodes-nodes.ensures.tree.one in
    record {
      place_is = rw nodes at c.nodes_with.ensures;
      cap_is = rw nodes at c.nodes_with-2.ensures;
      pair_is = rw nodes at c.nodes_with-3.ensures;
      round_is = rw nodes at c.nodes_with-4.ensures;
      chan_is = rw nodes at c.nodes_with-5.ensures;
      leaves_are = rw nodes at c.nodes_with-6.ensures;
      steps_are = rw nodes at c.steps_in.ensures;
      above_is = rw (c.in_ok-levels.ensures, nodes, same) at c.saturating_sub.ensures;
    }
