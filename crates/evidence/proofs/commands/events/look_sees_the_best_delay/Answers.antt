use Rattle.evidence.proofs.WorkersAfter.{seen_best}
use Rattle.evidence.proofs.commands.events.look_sees_the_best_delay.Goals as goal

pub returns : goal.returns
returns c = seen_best _ _ _ _ c.step.ensures
