use Rattle.std.proofs.Common.{ap}
use Rattle.ttp_model.specs.declared.step.Leaf.{Leaf}
use Rattle.step_logs.proofs.trim.closed_leaf.Goals as goal

pub returns-in-Some-clause-closes : goal.returns-in-Some-clause-closes
returns-in-Some-clause-closes c = rw c.leaf_of.ensures (rw c.in-Some.is at c.in_ok-trimmed.ensures.closes)

pub returns-in-None-clause-closes : goal.returns-in-None-clause-closes
returns-in-None-clause-closes c = rw c.leaf_of-in-None.ensures c.requires.closes

pub returns-in-Some-clause-goal : goal.returns-in-Some-clause-goal
returns-in-Some-clause-goal c = ap (λ (leaf : Leaf). leaf.goal) c.leaf_of.ensures

pub returns-in-None-clause-goal : goal.returns-in-None-clause-goal
returns-in-None-clause-goal c = ap (λ (leaf : Leaf). leaf.goal) c.leaf_of-in-None.ensures
