use Rattle.question_commands.proofs.MarginAnswers.{margin_of_bytes}
use Rattle.question_commands.proofs.margins.margin_of_reader.Goals as goal

pub returns-clause-judged : goal.returns-clause-judged
returns-clause-judged g c = margin_of_bytes _ _ _ _ c.in_ok-instance.instance _ c.in_ok-instance.ensures.judged c.margin_of.ensures
