use Rattle.search_trees.proofs.Once.{none_twice}
use Rattle.search_trees.proofs.laws.names_stand_once.Goals as goal

pub returns : goal.returns
returns c = none_twice
