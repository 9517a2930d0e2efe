use Rattle.plan_commands.proofs.Judgements.{judged_of_texts}
use Rattle.plan_commands.proofs.laws.texts_are_judged.Goals as goal

pub returns : goal.returns
returns c = judged_of_texts
