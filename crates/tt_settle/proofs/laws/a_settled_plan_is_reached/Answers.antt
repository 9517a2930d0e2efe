use Rattle.ttp_model.proofs.Reached.{moves_reach}
use Rattle.tt_settle.proofs.laws.a_settled_plan_is_reached.Goals as goal

pub returns : goal.returns
returns c = moves_reach
