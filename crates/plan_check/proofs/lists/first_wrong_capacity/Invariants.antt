use Rattle.ttp_model.specs.Lists.{EachBelow}
use Rattle.ttp_model.specs.Plans.{HasOwnCapacity}
use Rattle.plan_check.proofs.lists.first_wrong_capacity.Given as goal

abbrev pub invariant-loop-n : goal.invariant-loop-n
invariant-loop-n l = EachBelow l.n (HasOwnCapacity l.instance l.plan.caps)
