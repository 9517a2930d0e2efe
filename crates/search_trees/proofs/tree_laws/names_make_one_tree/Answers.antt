use Rattle.search_trees.proofs.Gathered.{names_make_a_tree, tree_has_names, tree_is_one}
use Rattle.search_trees.proofs.tree_laws.names_make_one_tree.Goals as goal

pub returns-clause-exists : goal.returns-clause-exists
returns-clause-exists c = names_make_a_tree

pub returns-clause-only : goal.returns-clause-only
returns-clause-only c = tree_has_names

pub returns-clause-one : goal.returns-clause-one
returns-clause-one c = tree_is_one
