use Rattle.std.proofs.Common.{string_bytes}
use Rattle.explain_command.specs.Explained.{IsUntold}
use Rattle.explain_command.specs.Instances.{TellsInstance}
use Rattle.explain_command.proofs.Told.{told_of_one}
use Rattle.explain_command.proofs.explaining.explain_instance.Goals as goal

pub returns-in-Ok-clause-answer : goal.returns-in-Ok-clause-answer
returns-in-Ok-clause-answer g c =
    told_of_one TellsInstance IsUntold _ (string_bytes c.in-Ok.text) _ _ _ c.in-Ok.ensures.ok (rw c.as_bytes.ensures.value at c.end_with.ensures)
