use Rattle.ttp_model.specs.Lists.{EachBelow}
use Rattle.tt_settle.specs.Settling.{IsTried, RestAsSilentTwins}
use Rattle.tt_settle.proofs.swaps.order_silent_twins_of.Given as goal

abbrev pub invariant-loop-u : goal.invariant-loop-u
invariant-loop-u l = IsTried l.instance l.fn.plan (λ r. EachBelow l.u (λ u. RestAsSilentTwins l.instance r u l.v)) l.plan l.moved
