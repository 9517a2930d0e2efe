use Rattle.ttp_model.specs.Lists.{EachBelow}
use Rattle.tt_settle.specs.Settling.{IsTried, RestsOnChannel}
use Rattle.tt_settle.proofs.turns.turn_frames.Given as goal

abbrev pub invariant-loop-m : goal.invariant-loop-m
invariant-loop-m l = IsTried l.instance l.fn.plan (λ q. EachBelow l.m (RestsOnChannel l.instance q)) l.plan l.moved
