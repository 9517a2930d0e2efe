use Rattle.ttp_model.specs.Lists.{EachBelow}
use Rattle.plan_reasons.specs.PlanCauses.{ProcessHolds}
use Rattle.plan_reasons.proofs.plan_starts.process_that_holds.Given as goal

abbrev pub invariant-loop-q : goal.invariant-loop-q
invariant-loop-q l = EachBelow l.q (λ k. ¬ ProcessHolds l.instance l.plan l.p k)
