use Rattle.plan_format.proofs.WholeText.{spelled_once}
use Rattle.plan_format.proofs.laws.spelling_is_of_one_plan.Goals as goal

pub returns : goal.returns
returns c = spelled_once
