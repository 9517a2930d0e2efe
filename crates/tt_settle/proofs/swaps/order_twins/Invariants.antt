use Rattle.ttp_model.specs.Lists.{EachBelow}
use Rattle.tt_settle.specs.Settling.{IsTried, RestsAmongTwins}
use Rattle.tt_settle.proofs.swaps.order_twins.Given as goal

abbrev pub invariant-loop-p : goal.invariant-loop-p
invariant-loop-p l = IsTried l.instance l.fn.plan (λ r. EachBelow l.p (RestsAmongTwins l.instance r)) l.plan l.moved
