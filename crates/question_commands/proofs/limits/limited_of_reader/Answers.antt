use Rattle.question_commands.proofs.LimitAnswers.{judged_of_bytes}
use Rattle.question_commands.proofs.limits.limited_of_reader.Goals as goal

pub returns-clause-judged : goal.returns-clause-judged
returns-clause-judged g c = judged_of_bytes _ _ _ _ c.in_ok-instance.instance _ c.in_ok-instance.ensures.judged c.limited_of.ensures
