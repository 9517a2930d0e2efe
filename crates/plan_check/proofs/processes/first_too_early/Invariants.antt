use Rattle.ttp_model.specs.Lists.{EachBelow}
use Rattle.ttp_model.specs.Plans.{IsReleased}
use Rattle.plan_check.proofs.processes.first_too_early.Given as goal

abbrev pub invariant-loop-p : goal.invariant-loop-p
invariant-loop-p l = EachBelow l.p (IsReleased l.instance l.plan)
