use Rattle.ttp_model.specs.Lists.{EachBelow}
use Rattle.ttp_model.specs.Plans.{HasOwnChannel}
use Rattle.plan_check.proofs.channels.first_wrong_channel.Given as goal

abbrev pub invariant-loop-m : goal.invariant-loop-m
invariant-loop-m l = EachBelow l.m (HasOwnChannel l.instance l.plan)
