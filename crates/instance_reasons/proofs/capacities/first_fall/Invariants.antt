use Rattle.ttp_model.specs.Lists.{EachBelow}
use Rattle.instance_reasons.specs.Capacities.{Rises}
use Rattle.instance_reasons.proofs.capacities.first_fall.Given as goal

abbrev pub invariant-loop-k : goal.invariant-loop-k
invariant-loop-k l = EachBelow l.k (Rises l.capacities)
