use Rattle.std.proofs.Common.{◌∙◌}
use Rattle.question_commands.proofs.Lines.{unsaid_as}
use Rattle.question_commands.proofs.telling.tell_need.Goals as goal

pub returns-clause-err : goal.returns-clause-err
returns-clause-err g c = unsaid_as c.say.result _ _ _ _ (c.as_slice.ensures.value ∙ c.in_ok-line.ensures) c.say.ensures.err
