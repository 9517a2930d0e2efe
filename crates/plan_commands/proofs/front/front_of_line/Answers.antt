use Rattle.plan_commands.proofs.AnswerLines.{line_of_between, line_of_none, line_of_stopped}
use Rattle.plan_commands.proofs.front.front_of_line.Goals as goal

pub returns-in-Some : goal.returns-in-Some
returns-in-Some c = line_of_stopped _ _ c.in-Some.ensures.value _ c.front_of_stopped.ensures

pub returns-in-Some-after_keyword : goal.returns-in-Some-after_keyword
returns-in-Some-after_keyword c = line_of_between _ _ c.in-Some-after_keyword.ensures.value _ c.front_of_bounds.ensures

pub returns-in_err-word : goal.returns-in_err-word
returns-in_err-word c =
    rw c.from_residual.ensures (line_of_none _ c.in_default.ensures.value c.in_default-after_keyword.ensures.value c.in_err-word.ensures.value)
