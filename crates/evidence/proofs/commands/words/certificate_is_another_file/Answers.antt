use Rattle.evidence.proofs.Spared.{spares}
use Rattle.evidence.proofs.commands.words.certificate_is_another_file.Goals as goal

pub returns-in-Ok : goal.returns-in-Ok
returns-in-Ok c = spares _ c.in-Ok.ensures
