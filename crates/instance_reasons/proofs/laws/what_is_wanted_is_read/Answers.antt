use Rattle.instance_reasons.proofs.Telling.{wanted_read}
use Rattle.instance_reasons.proofs.laws.what_is_wanted_is_read.Goals as goal

pub returns : goal.returns
returns c = wanted_read
