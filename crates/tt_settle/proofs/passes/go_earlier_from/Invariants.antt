use Rattle.std.proofs.Common.{◌≡◌}
use Rattle.ttp_model.specs.Lists.{EachBelow}
use Rattle.ttp_model.specs.Plans.{start_of}
use Rattle.tt_settle.specs.Settling.{IsTried, RestsWithMessages}
use Rattle.tt_settle.proofs.passes.go_earlier_from.Given as goal

abbrev pub invariant-loop-p : goal.invariant-loop-p
invariant-loop-p l = IsTried l.instance l.fn.plan (λ q. EachBelow l.p (λ p. start_of q p ≡ l.time → RestsWithMessages l.instance q p)) l.plan l.moved
