use Rattle.ttp_model.specs.Lists.{EachBelow}
use Rattle.ttp_model.specs.Plans.{FitsFrame}
use Rattle.plan_check.proofs.frames.first_overfull.Given as goal

abbrev pub invariant-loop-m : goal.invariant-loop-m
invariant-loop-m l = EachBelow l.m (FitsFrame l.instance l.plan)
