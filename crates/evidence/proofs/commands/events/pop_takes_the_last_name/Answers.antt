use Rattle.evidence.proofs.WorkersAfter.{takes_last}
use Rattle.evidence.proofs.commands.events.pop_takes_the_last_name.Goals as goal

pub returns : goal.returns
returns c = takes_last _ _ _ _ c.step.ensures
