use Rattle.ttp_model.proofs.Lighter.{lowers_weight}
use Rattle.tt_settle.proofs.laws.moves_lower_the_weight.Goals as goal

pub returns : goal.returns
returns c = lowers_weight
