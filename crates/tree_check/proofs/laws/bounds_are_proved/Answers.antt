use Rattle.tree_check.proofs.Bounds.{proved_bound, proved_none}
use Rattle.tree_check.proofs.laws.bounds_are_proved.Goals as goal

pub returns-clause-bound : goal.returns-clause-bound
returns-clause-bound c = proved_bound

pub returns-clause-none : goal.returns-clause-none
returns-clause-none c = proved_none
