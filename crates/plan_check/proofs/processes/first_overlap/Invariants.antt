use Rattle.ttp_model.specs.Lists.{EachBelow}
use Rattle.ttp_model.specs.Plans.{IsApartFromLater}
use Rattle.plan_check.proofs.processes.first_overlap.Given as goal

abbrev pub invariant-loop-p : goal.invariant-loop-p
invariant-loop-p l = EachBelow l.p (IsApartFromLater l.instance l.plan)
