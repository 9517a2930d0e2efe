use Rattle.tt_moves.proofs.EarlierStarts.{started_valid}
use Rattle.tt_moves.proofs.laws.earlier_starts_stay_valid.Goals as goal

pub returns : goal.returns
returns c = started_valid
