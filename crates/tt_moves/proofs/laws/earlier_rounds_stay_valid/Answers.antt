use Rattle.tt_moves.proofs.EarlierRounds.{sent_valid}
use Rattle.tt_moves.proofs.laws.earlier_rounds_stay_valid.Goals as goal

pub returns : goal.returns
returns c = sent_valid
