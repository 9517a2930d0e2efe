use Rattle.instance_reasons.specs.Unknown.{is_known}
use Rattle.instance_reasons.proofs.Telling.{odd_name_unknown}
use Rattle.instance_reasons.proofs.laws.odd_names_are_unknown.Goals as goal

pub returns : goal.returns
returns c names d name e = odd_name_unknown (is_known names) d name e
