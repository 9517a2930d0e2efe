use Rattle.std.proofs.Common.{◌≡◌}
use Rattle.steal_pool.specs.Hand.{pushed, taken, IsSameHand}
use Rattle.steal_pool.proofs.hand.Hand.steal.Given as goal

abbrev pub invariant-loop-place : goal.invariant-loop-place
invariant-loop-place g l =
    record { same : IsSameHand l.initial.self l.self; pushed : pushed l.self ≡ pushed l.initial.self; taken : taken l.self ≡ taken l.initial.self }
