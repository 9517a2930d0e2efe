use Rattle.question_commands.proofs.AgeAnswers.{told_age, untold_age}
use Rattle.question_commands.proofs.ages.age_run.Goals as goal

pub returns-in-Ok-clause-answer : goal.returns-in-Ok-clause-answer
returns-in-Ok-clause-answer g c =
    told_age _ c.args.name.now c.args.beside c.args.asking.now.options c.in-Ok.aged _ _ _ _ _ _ c.tell-end.result c.in-Ok.ensures.judged c.tell-end.ensures

pub returns-in-Err-clause-answer : goal.returns-in-Err-clause-answer
returns-in-Err-clause-answer g c =
    untold_age _ c.args.name.now c.args.beside c.args.asking.now.options _ _ _ c.in-Err.end c.in-Err.ensures.judged
