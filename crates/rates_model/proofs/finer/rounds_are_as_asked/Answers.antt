use Rattle.rates_model.proofs.Shares.{round_as_asked}
use Rattle.rates_model.proofs.finer.rounds_are_as_asked.Goals as goal

pub returns : goal.returns
returns c = round_as_asked
