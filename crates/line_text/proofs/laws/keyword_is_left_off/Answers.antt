use Rattle.line_text.proofs.Cuts.{after_again}
use Rattle.line_text.proofs.laws.keyword_is_left_off.Goals as goal

pub returns : goal.returns
returns c = after_again
