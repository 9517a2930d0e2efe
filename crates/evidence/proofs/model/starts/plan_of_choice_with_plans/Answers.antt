use Rattle.evidence.proofs.Earliest.{no_clash}
use Rattle.evidence.proofs.model.starts.plan_of_choice_with_plans.Goals as goal

pub returns : goal.returns
returns c = λ plan valid inside. no_clash _ _ _ plan c.in_ok-earliest.ensures valid inside
