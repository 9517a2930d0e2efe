use Rattle.search_core.proofs.Tree.{whole_tree}
use Rattle.search_core.proofs.laws.names_are_a_tree.Goals as goal

pub returns : goal.returns
returns c = whole_tree
