use Rattle.std.proofs.Common.{ℕ, ◌+◌, slice_index}
use Rattle.rates_model.specs.Ages.{wait_of}
use Rattle.endless_schedules.proofs.Lists.{grown_by}
use Rattle.endless_schedules.proofs.carrying.waits_along.Goals as goal

pub loop-k-preserved : goal.loop-k-preserved
loop-k-preserved c =
    rw c.in_ok-push.ensures.items
    (grown_by (λ (k : ℕ). wait_of c.args.rates.now (slice_index c.args.through.now k) (slice_index c.args.through.now (k + 1))) _ _ c.loop-k.k c.wait_of.ensures c.loop-k.invariant)
