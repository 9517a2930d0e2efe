use Rattle.search_trees.proofs.Leaves.{closed_whole, closed_right}
use Rattle.search_trees.proofs.tree_laws.leaves_close_a_tree.Goals as goal

pub returns-clause-whole : goal.returns-clause-whole
returns-clause-whole c = closed_whole

pub returns-clause-right : goal.returns-clause-right
returns-clause-right c = closed_right
