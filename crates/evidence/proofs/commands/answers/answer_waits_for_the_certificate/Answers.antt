use Rattle.evidence.proofs.SearchesTold.{nothing_told}
use Rattle.evidence.proofs.commands.answers.answer_waits_for_the_certificate.Goals as goal

pub returns : goal.returns
returns g c = nothing_told _ _ _ _ _ _ _ _ c.solve_run.ensures.answer
