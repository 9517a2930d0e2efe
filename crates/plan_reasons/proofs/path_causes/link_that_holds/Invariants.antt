use Rattle.ttp_model.specs.Lists.{EachBelow}
use Rattle.plan_reasons.specs.PathChains.{LinkHolds}
use Rattle.plan_reasons.proofs.path_causes.link_that_holds.Given as goal

abbrev pub invariant-loop-l : goal.invariant-loop-l
invariant-loop-l l = EachBelow l.l (λ k. ¬ LinkHolds l.instance l.ends l.p l.from k)
