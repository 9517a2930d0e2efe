use Rattle.line_text.proofs.Tellings.{told-same}
use Rattle.line_text.proofs.told_laws.printable_is_told_as_it_is.Goals as goal

pub returns : goal.returns
returns c = told-same
