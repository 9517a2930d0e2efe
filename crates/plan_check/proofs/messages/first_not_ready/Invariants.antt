use Rattle.ttp_model.specs.Lists.{EachBelow}
use Rattle.ttp_model.specs.Plans.{IsReady}
use Rattle.plan_check.proofs.messages.first_not_ready.Given as goal

abbrev pub invariant-loop-m : goal.invariant-loop-m
invariant-loop-m l = EachBelow l.m (IsReady l.instance l.plan)
