use Rattle.line_text.proofs.Digits.{decimal_lacks}
use Rattle.line_text.proofs.laws.numbers_lack_other_bytes.Goals as goal

pub returns : goal.returns
returns c = decimal_lacks
