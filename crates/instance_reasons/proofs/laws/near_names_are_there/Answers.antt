use Rattle.instance_reasons.proofs.Telling.{near_there}
use Rattle.instance_reasons.proofs.laws.near_names_are_there.Goals as goal

pub returns : goal.returns
returns c = near_there
