use Rattle.ttp_model.proofs.Delays.{keeps_delay}
use Rattle.tt_settle.proofs.laws.moves_keep_the_delay.Goals as goal

pub returns : goal.returns
returns c = keeps_delay
