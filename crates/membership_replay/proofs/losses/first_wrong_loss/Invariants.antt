use Rattle.ttp_model.specs.Lists.{EachBelow}
use Rattle.membership_replay.specs.Losses.{IsLossAt}
use Rattle.membership_replay.proofs.losses.first_wrong_loss.Given as goal

abbrev pub invariant-loop-k : goal.invariant-loop-k
invariant-loop-k l = EachBelow l.k (IsLossAt l.medl l.losses)
