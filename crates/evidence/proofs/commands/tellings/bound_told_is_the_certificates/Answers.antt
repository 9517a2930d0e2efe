use Rattle.evidence.proofs.BoundsAndTraces.{its_bound}
use Rattle.evidence.proofs.commands.tellings.bound_told_is_the_certificates.Goals as goal

pub returns : goal.returns
returns g c = its_bound _ _ _ _ _ _ c.check_run.ensures.answer
