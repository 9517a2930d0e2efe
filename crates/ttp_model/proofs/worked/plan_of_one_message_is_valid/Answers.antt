use Rattle.ttp_model.proofs.OneMessagePlan.{plan_is_valid}
use Rattle.ttp_model.proofs.worked.plan_of_one_message_is_valid.Goals as goal

pub returns : goal.returns
returns c = plan_is_valid
