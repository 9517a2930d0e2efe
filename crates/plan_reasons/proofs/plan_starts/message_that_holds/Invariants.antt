use Rattle.ttp_model.specs.Lists.{EachBelow}
use Rattle.plan_reasons.specs.PlanCauses.{MessageHolds}
use Rattle.plan_reasons.proofs.plan_starts.message_that_holds.Given as goal

abbrev pub invariant-loop-m : goal.invariant-loop-m
invariant-loop-m l = EachBelow l.m (λ k. ¬ MessageHolds l.instance l.plan l.p k)
