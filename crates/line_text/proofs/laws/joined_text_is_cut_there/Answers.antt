use Rattle.line_text.proofs.Cuts.{cut_again}
use Rattle.line_text.proofs.laws.joined_text_is_cut_there.Goals as goal

pub returns : goal.returns
returns c = cut_again
