use Rattle.tt_choice.proofs.Unplaced.{length-unplaced}
use Rattle.tt_choice.proofs.laws.unplaced_nodes_are_the_rest.Goals as goal

pub returns : goal.returns
returns c = length-unplaced
