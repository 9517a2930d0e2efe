use Rattle.std.proofs.Common.{◌≡◌}
use Rattle.ttp_model.specs.Lists.{EachBelow}
use Rattle.ttp_model.specs.Instance.{message_at}
use Rattle.tt_settle.specs.Settling.{IsTried, RestsInRound}
use Rattle.tt_settle.proofs.passes.send_all_of.Given as goal

abbrev pub invariant-loop-m : goal.invariant-loop-m
invariant-loop-m l = IsTried l.instance l.fn.plan (λ q. EachBelow l.m (λ m. (message_at l.instance m).sender ≡ l.p → RestsInRound l.instance q m)) l.plan l.moved
