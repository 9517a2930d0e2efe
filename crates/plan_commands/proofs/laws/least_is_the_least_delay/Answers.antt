use Rattle.plan_commands.proofs.Judgements.{least_said}
use Rattle.plan_commands.proofs.laws.least_is_the_least_delay.Goals as goal

pub returns : goal.returns
returns c = least_said
