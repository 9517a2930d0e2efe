use Rattle.ttp_model.specs.Lists.{EachBelow}
use Rattle.instance_reasons.specs.Joins.{IsNewAt}
use Rattle.instance_reasons.proofs.joins.first_repeat.Given as goal

abbrev pub invariant-loop-k : goal.invariant-loop-k
invariant-loop-k l = EachBelow l.k (IsNewAt l.numbers)
