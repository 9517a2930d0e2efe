use Rattle.ttp_model.specs.Lists.{EachBelow}
use Rattle.plan_reasons.specs.PlanCauses.{LinkHolds}
use Rattle.plan_reasons.proofs.plan_starts.link_that_holds.Given as goal

abbrev pub invariant-loop-l : goal.invariant-loop-l
invariant-loop-l l = EachBelow l.l (λ k. ¬ LinkHolds l.instance l.plan l.p k)
