use Rattle.plan_commands.proofs.Judgements.{none_said}
use Rattle.plan_commands.proofs.laws.none_is_that_there_is_no_plan.Goals as goal

pub returns : goal.returns
returns c = none_said
