use Rattle.plan_commands.proofs.Judgements.{between_said}
use Rattle.plan_commands.proofs.laws.between_has_the_least_delay.Goals as goal

pub returns : goal.returns
returns c = between_said
