use Rattle.side_by_side.proofs.LowBounds.{greatest_bound}
use Rattle.side_by_side.proofs.laws.least_goals_are_the_bounds.Goals as goal

pub returns : goal.returns
returns c = greatest_bound
