use Rattle.ttp_model.specs.Lists.{EachBelow}
use Rattle.ttp_model.specs.Plans.{IsNewNode}
use Rattle.plan_check.proofs.lists.first_wrong_position.Given as goal

abbrev pub invariant-loop-k : goal.invariant-loop-k
invariant-loop-k l = EachBelow l.k (IsNewNode l.count l.order)
