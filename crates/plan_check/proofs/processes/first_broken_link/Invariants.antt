use Rattle.ttp_model.specs.Lists.{EachBelow}
use Rattle.ttp_model.specs.Plans.{KeepsLink}
use Rattle.plan_check.proofs.processes.first_broken_link.Given as goal

abbrev pub invariant-loop-l : goal.invariant-loop-l
invariant-loop-l l = EachBelow l.l (KeepsLink l.instance l.plan)
