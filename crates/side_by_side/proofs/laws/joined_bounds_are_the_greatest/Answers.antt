use Rattle.side_by_side.proofs.Proving.{joined_bound}
use Rattle.side_by_side.proofs.laws.joined_bounds_are_the_greatest.Goals as goal

pub returns : goal.returns
returns c = joined_bound
