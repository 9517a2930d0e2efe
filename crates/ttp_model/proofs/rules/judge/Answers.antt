use Rattle.ttp_model.proofs.RuleOrder.{IsInstance_from}
use Rattle.ttp_model.proofs.rules.judge.Goals as goal

pub returns : goal.returns
returns c = IsInstance_from _ c.in_ok-judge_order.ensures c.in_default.ensures
