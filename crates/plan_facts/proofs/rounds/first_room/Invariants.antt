use Rattle.ttp_model.specs.Lists.{EachBelow}
use Rattle.tt_moves.specs.Earlier.{CanBeSent}
use Rattle.plan_facts.proofs.rounds.first_room.Given as goal

abbrev pub invariant-loop-r : goal.invariant-loop-r
invariant-loop-r l = EachBelow l.r (λ s. ¬ CanBeSent l.instance l.plan l.m s)
