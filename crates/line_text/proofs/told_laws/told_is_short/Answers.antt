use Rattle.line_text.proofs.Tellings.{told-short}
use Rattle.line_text.proofs.told_laws.told_is_short.Goals as goal

pub returns : goal.returns
returns c = told-short
