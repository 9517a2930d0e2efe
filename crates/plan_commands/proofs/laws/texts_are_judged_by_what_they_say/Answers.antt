use Rattle.plan_commands.proofs.Judgements.{by_what_they_say}
use Rattle.plan_commands.proofs.laws.texts_are_judged_by_what_they_say.Goals as goal

pub returns : goal.returns
returns c = by_what_they_say
