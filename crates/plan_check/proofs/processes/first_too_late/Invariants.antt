use Rattle.ttp_model.specs.Lists.{EachBelow}
use Rattle.ttp_model.specs.Plans.{EndsInTime}
use Rattle.plan_check.proofs.processes.first_too_late.Given as goal

abbrev pub invariant-loop-p : goal.invariant-loop-p
invariant-loop-p l = EachBelow l.p (EndsInTime l.instance l.plan)
