use Rattle.line_text.proofs.Tellings.{told-printable}
use Rattle.line_text.proofs.told_laws.told_is_printable.Goals as goal

pub returns : goal.returns
returns c = told-printable
