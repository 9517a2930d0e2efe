use Rattle.ttp_model.proofs.Descent.{weights_end_lem}
use Rattle.tt_settle.proofs.laws.weights_end.Goals as goal

pub returns : goal.returns
returns c = weights_end_lem
