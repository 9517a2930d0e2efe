use Rattle.evidence.proofs.PlansTold.{windows_last}
use Rattle.evidence.proofs.commands.verdicts.tables_end_with_windows.Goals as goal

pub returns : goal.returns
returns g c = windows_last _ _ _ _ _ c.tables.ensures.answer
