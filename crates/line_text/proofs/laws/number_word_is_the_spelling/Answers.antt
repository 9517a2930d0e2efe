use Rattle.line_text.proofs.Digits.{number_word_is}
use Rattle.line_text.proofs.laws.number_word_is_the_spelling.Goals as goal

pub returns : goal.returns
returns c = number_word_is
