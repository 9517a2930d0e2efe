use Rattle.tree_check.proofs.Bounds.{proved_least}
use Rattle.tree_check.proofs.laws.plans_at_the_bound_are_least.Goals as goal

pub returns : goal.returns
returns c = proved_least
