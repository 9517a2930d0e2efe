use Rattle.side_by_side.proofs.Proving.{joined_right, joined_tree_right}
use Rattle.side_by_side.proofs.laws.joined_trees_are_right.Goals as goal

pub returns : goal.returns
returns c = record { choices = joined_right; whole = joined_tree_right }
