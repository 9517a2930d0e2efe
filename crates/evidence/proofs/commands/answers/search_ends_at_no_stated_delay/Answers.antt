use Rattle.evidence.proofs.SearchesTold.{no_stated_delay}
use Rattle.evidence.proofs.commands.answers.search_ends_at_no_stated_delay.Goals as goal

pub returns : goal.returns
returns g c = no_stated_delay _ _ _ _ _ _ _ _ c.solve_run.ensures.answer
