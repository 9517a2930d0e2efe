use Rattle.tt_infer.proofs.Chances.{concludes_some}
use Rattle.tt_infer.proofs.laws.rules_conclude.Goals as goal

pub returns : goal.returns
returns c = concludes_some
