use Rattle.question_commands.proofs.LimitAnswers.{told_limit}
use Rattle.question_commands.proofs.limits.limit_run.Goals as goal

pub returns-in-Ok-clause-answer : goal.returns-in-Ok-clause-answer
returns-in-Ok-clause-answer g c = told_limit _ _ c.args.asking.now.options c.args.beside _ _ _ _ _ _ _ _ c.in-Ok.ensures.judged c.tell-end.ensures
