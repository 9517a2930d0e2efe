use Rattle.search_core.proofs.Right.{pieces_right}
use Rattle.search_core.proofs.laws.pieces_are_right.Goals as goal

pub returns : goal.returns
returns c = pieces_right
