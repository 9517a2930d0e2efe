use Rattle.ttp_model.specs.Lists.{EachBelow}
use Rattle.ttp_model.specs.Plans.{FitsOn}
use Rattle.plan_check.proofs.frames.first_overfull_channel.Given as goal

abbrev pub invariant-loop-c : goal.invariant-loop-c
invariant-loop-c l = EachBelow l.c (FitsOn l.instance l.plan l.m)
