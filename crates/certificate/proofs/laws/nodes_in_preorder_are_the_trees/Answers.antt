use Rattle.certificate.proofs.TreeLists.{trees_of-preorder, preorder-trees_of}
use Rattle.certificate.proofs.laws.nodes_in_preorder_are_the_trees.Goals as goal

pub returns-clause-trees : goal.returns-clause-trees
returns-clause-trees c = trees_of-preorder

pub returns-clause-nodes : goal.returns-clause-nodes
returns-clause-nodes c = preorder-trees_of
