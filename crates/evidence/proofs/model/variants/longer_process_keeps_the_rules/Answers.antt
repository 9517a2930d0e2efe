use Rattle.evidence.proofs.LongerProcess.{longer_keeps_rules}
use Rattle.evidence.proofs.model.variants.longer_process_keeps_the_rules.Goals as goal

pub returns : goal.returns
returns c = longer_keeps_rules
