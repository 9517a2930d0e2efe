use Rattle.side_by_side.proofs.Faultless.{told_is_wrong}
use Rattle.side_by_side.proofs.laws.what_is_told_is_wrong.Goals as goal

pub returns : goal.returns
returns c = told_is_wrong
