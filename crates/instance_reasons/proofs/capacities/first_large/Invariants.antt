use Rattle.ttp_model.specs.Lists.{EachBelow}
use Rattle.instance_reasons.specs.Capacities.{IsSmallAt}
use Rattle.instance_reasons.proofs.capacities.first_large.Given as goal

abbrev pub invariant-loop-k : goal.invariant-loop-k
invariant-loop-k l = EachBelow l.k (IsSmallAt l.capacities)
