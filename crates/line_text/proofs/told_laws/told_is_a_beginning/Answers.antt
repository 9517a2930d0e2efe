use Rattle.line_text.proofs.Tellings.{told-whole}
use Rattle.line_text.proofs.told_laws.told_is_a_beginning.Goals as goal

pub returns : goal.returns
returns c = told-whole
