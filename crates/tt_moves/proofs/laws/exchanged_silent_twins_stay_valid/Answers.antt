use Rattle.tt_moves.proofs.ExchangedSilentTwins.{exchanged_valid}
use Rattle.tt_moves.proofs.laws.exchanged_silent_twins_stay_valid.Goals as goal

pub returns : goal.returns
returns c = exchanged_valid
