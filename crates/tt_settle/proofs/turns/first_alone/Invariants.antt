use Rattle.std.proofs.Common.{◌≡◌, false}
use Rattle.ttp_model.specs.Lists.{EachBelow}
use Rattle.ttp_model.specs.Moves.{is_alone_in}
use Rattle.tt_settle.proofs.turns.first_alone.Given as goal

abbrev pub invariant-loop-k : goal.invariant-loop-k
invariant-loop-k l = EachBelow l.k (λ j. is_alone_in l.instance l.plan l.n l.r j ≡ false)
