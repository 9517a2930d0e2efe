use Rattle.rates_command.proofs.Repeatings.{told_of_both}
use Rattle.rates_command.proofs.repeat.repeat_plan_run.Goals as goal

pub returns-in-Ok-clause-answer : goal.returns-in-Ok-clause-answer
returns-in-Ok-clause-answer g c = told_of_both _ _ c.in-Ok.read _ _ _ c.in-Ok.ensures.judged c.write_plan_repeat.ensures.answer
