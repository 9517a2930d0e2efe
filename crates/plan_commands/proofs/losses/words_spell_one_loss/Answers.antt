use Rattle.plan_commands.proofs.LossSpelling.{spelled_once}
use Rattle.plan_commands.proofs.losses.words_spell_one_loss.Goals as goal

pub returns : goal.returns
returns c = spelled_once
