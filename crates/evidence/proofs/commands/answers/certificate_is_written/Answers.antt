use Rattle.evidence.proofs.SearchesTold.{certified}
use Rattle.evidence.proofs.commands.answers.certificate_is_written.Goals as goal

pub returns : goal.returns
returns g c = certified _ _ _ _ _ _ _ _ c.solve_run.ensures.answer
