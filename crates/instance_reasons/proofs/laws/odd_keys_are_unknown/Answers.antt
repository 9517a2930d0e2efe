use Rattle.instance_reasons.proofs.Telling.{odd_key_unknown}
use Rattle.instance_reasons.proofs.laws.odd_keys_are_unknown.Goals as goal

pub returns : goal.returns
returns c = odd_key_unknown
