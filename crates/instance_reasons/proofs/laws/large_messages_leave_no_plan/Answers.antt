use Rattle.instance_reasons.proofs.Large.{none_valid}
use Rattle.instance_reasons.proofs.laws.large_messages_leave_no_plan.Goals as goal

pub returns : goal.returns
returns c = none_valid
