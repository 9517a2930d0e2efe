use Rattle.plan_commands.proofs.Judgements.{judged_once}
use Rattle.plan_commands.proofs.laws.texts_are_judged_once.Goals as goal

pub returns : goal.returns
returns c = judged_once
