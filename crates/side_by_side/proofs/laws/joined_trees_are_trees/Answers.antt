use Rattle.side_by_side.proofs.Shallow.{joined_is_tree}
use Rattle.side_by_side.proofs.laws.joined_trees_are_trees.Goals as goal

pub returns : goal.returns
returns c = λ i certs tree. joined_is_tree i certs tree
