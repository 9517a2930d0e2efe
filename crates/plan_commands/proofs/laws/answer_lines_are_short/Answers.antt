use Rattle.plan_commands.proofs.AnswerLines.{line_length}
use Rattle.plan_commands.proofs.laws.answer_lines_are_short.Goals as goal

pub returns : goal.returns
returns c = line_length
