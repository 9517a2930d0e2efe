use Rattle.std.proofs.Common.{◌∙◌}
use Rattle.question_commands.proofs.Lines.{unsaid_as}
use Rattle.question_commands.proofs.why.tell_plan.Goals as goal

pub returns-clause-err : goal.returns-clause-err
returns-clause-err g c = unsaid_as c.say.result _ _ _ _ (c.as_slice.ensures.value ∙ c.in_ok-text.ensures) c.say.ensures.err
