use Rattle.ttp_model.specs.Lists.{EachBelow}
use Rattle.instance_reasons.specs.Malformed.{HasStanding}
use Rattle.instance_reasons.proofs.malformed.first_wrong.Given as goal

abbrev pub invariant-loop-k : goal.invariant-loop-k
invariant-loop-k l = EachBelow l.k (HasStanding l.name)
