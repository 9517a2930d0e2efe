use Rattle.std.proofs.Common.{◌-◌}
use Rattle.ttp_model.specs.Lists.{EachBelow}
use Rattle.tt_settle.specs.Settling.{IsTried, RestAsTwins}
use Rattle.tt_settle.proofs.swaps.order_twins_of.Given as goal

abbrev pub invariant-loop-k : goal.invariant-loop-k
invariant-loop-k l = IsTried l.instance l.fn.plan (λ r. EachBelow l.k (λ j. RestAsTwins l.instance r l.p (l.count - 1 - j))) l.plan l.moved
