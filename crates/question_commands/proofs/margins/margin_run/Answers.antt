use Rattle.question_commands.proofs.MarginAnswers.{told_margin}
use Rattle.question_commands.proofs.margins.margin_run.Goals as goal

pub returns-in-Ok-clause-answer : goal.returns-in-Ok-clause-answer
returns-in-Ok-clause-answer g c = told_margin _ _ c.args.terms c.args.asking.now.options _ _ _ _ _ _ _ _ c.in-Ok.ensures.judged c.tell-end.ensures
