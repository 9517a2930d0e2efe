use Rattle.ttp_model.specs.Lists.{EachBelow}
use Rattle.ttp_model.specs.Plans.{HasArrivedAt}
use Rattle.plan_check.proofs.messages.first_early_receiver.Given as goal

abbrev pub invariant-loop-k : goal.invariant-loop-k
invariant-loop-k l = EachBelow l.k (HasArrivedAt l.instance l.plan l.fn.m)
