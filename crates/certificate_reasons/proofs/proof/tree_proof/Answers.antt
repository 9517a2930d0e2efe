-- The first node is the top of the tree that proves the bound.
use Rattle.certificate_reasons.proofs.Tops.{branch_proves, leaf_closes, leaf_proves}
use Rattle.certificate_reasons.proofs.proof.tree_proof.Goals as goal

pub root_leaf_reason-requires : goal.root_leaf_reason-requires
root_leaf_reason-requires c =
    let nodes = c.nodes-nodes.ensures in
    let here = rw nodes.nodes at c.index-nodes-0.is in
    leaf_closes _ _ _ c.args.cert.now.tree c.index-nodes-0.result _ nodes.tree.one c.requires.tree here c.in-Leaf.is

pub returns-in_ok-root_leaf_reason-in-Leaf : goal.returns-in_ok-root_leaf_reason-in-Leaf
returns-in_ok-root_leaf_reason-in-Leaf c =
    let nodes = c.nodes-nodes.ensures in
    let here = rw nodes.nodes at c.index-nodes-0.is in
    leaf_proves _ c.args.cert.now.tree c.index-nodes-0.result _ _ nodes.tree.one here c.in-Leaf.is c.in_ok-root_leaf_reason-in-Leaf.ensures

pub returns-in_ok-tree_size-in-Branch : goal.returns-in_ok-tree_size-in-Branch
returns-in_ok-tree_size-in-Branch c =
    let nodes = c.nodes-nodes.ensures in
    let here = rw nodes.nodes at c.index-nodes-0.is in
    branch_proves _ c.args.cert.now.tree c.index-nodes-0.result _ _ nodes.tree.one here c.in-Branch.is c.in_ok-tree_size-in-Branch.ensures
