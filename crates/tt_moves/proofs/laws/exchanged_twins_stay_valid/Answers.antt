use Rattle.tt_moves.proofs.ExchangedTwins.{swapped_valid}
use Rattle.tt_moves.proofs.laws.exchanged_twins_stay_valid.Goals as goal

pub returns : goal.returns
returns c = swapped_valid
