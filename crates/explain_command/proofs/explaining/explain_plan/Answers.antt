use Rattle.std.proofs.Common.{string_bytes}
use Rattle.explain_command.specs.Plans.{TellsPlanBytes}
use Rattle.command_streams.proofs.Outcomes.{ended_later}
use Rattle.explain_command.specs.Explained.{IsPlanUntold, TellsBoth}
use Rattle.explain_command.proofs.Told.{told_of_two, untold_of_two}
use Rattle.explain_command.proofs.explaining.explain_plan.Goals as goal

pub returns-in-Ok-clause-answer : goal.returns-in-Ok-clause-answer
returns-in-Ok-clause-answer g c =
    told_of_two (TellsBoth TellsPlanBytes) IsPlanUntold _ _ (string_bytes c.in-Ok.text) _ _ _ c.in-Ok.ensures.ok
    (rw c.as_bytes.ensures.value at c.end_with.ensures)

pub returns-in-Err-clause-answer : goal.returns-in-Err-clause-answer
returns-in-Err-clause-answer g c =
    untold_of_two (TellsBoth TellsPlanBytes) IsPlanUntold _ _ _ c.in-Err.fault (λ i p never. never) c.in-Err.ensures.err

pub returns-in-Ok-clause-order : goal.returns-in-Ok-clause-order
returns-in-Ok-clause-order g c = ended_later _ _ _ _ _ c.end_with.ensures
