use Rattle.evidence.proofs.BoundsAndTraces.{traced}
use Rattle.evidence.proofs.commands.tellings.named_frames_are_lost.Goals as goal

pub returns : goal.returns
returns g c = traced _ _ _ _ _ _ c.replay_run.ensures.answer
