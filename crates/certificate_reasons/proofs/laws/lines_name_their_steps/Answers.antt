use Rattle.certificate_reasons.proofs.Named.{steps_are_named}
use Rattle.certificate_reasons.proofs.laws.lines_name_their_steps.Goals as goal

pub returns : goal.returns
returns c = steps_are_named
