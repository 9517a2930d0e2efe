use Rattle.ttp_model.specs.Lists.{EachBelow}
use Rattle.plan_facts.specs.Earliest.{HasRoomOn}
use Rattle.plan_facts.proofs.rounds.has_room.Given as goal

abbrev pub invariant-loop-c : goal.invariant-loop-c
invariant-loop-c l = EachBelow l.c (HasRoomOn l.instance l.plan l.m l.r)
