use Rattle.ttp_model.specs.Lists.{EachBelow}
use Rattle.tt_settle.specs.Settling.{IsTried, RestAsSilentTwins}
use Rattle.tt_settle.proofs.swaps.order_silent_twins.Given as goal

abbrev pub invariant-loop-v : goal.invariant-loop-v
invariant-loop-v l = IsTried l.instance l.fn.plan (λ r. EachBelow l.v (λ v. EachBelow v (λ u. RestAsSilentTwins l.instance r u v))) l.plan l.moved
