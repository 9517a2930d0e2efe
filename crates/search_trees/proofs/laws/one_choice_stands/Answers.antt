use Rattle.search_trees.proofs.OneChoice.{stands_somehow, stands_alone}
use Rattle.search_trees.proofs.laws.one_choice_stands.Goals as goal

pub returns : goal.returns
returns c = record { some = stands_somehow; one = stands_alone }
