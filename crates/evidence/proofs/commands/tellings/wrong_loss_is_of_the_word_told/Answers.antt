use Rattle.evidence.proofs.BoundsAndTraces.{wrong}
use Rattle.evidence.proofs.commands.tellings.wrong_loss_is_of_the_word_told.Goals as goal

pub returns : goal.returns
returns g c = wrong _ _ _ _ _ _ c.replay_run.ensures.answer
