use Rattle.evidence.proofs.WorkersAfter.{closed_at}
use Rattle.evidence.proofs.commands.events.leaf_is_closed_at_what_was_seen.Goals as goal

pub returns : goal.returns
returns c = closed_at _ _ _ _ _ c.step.ensures
