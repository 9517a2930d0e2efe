use Rattle.std.proofs.Common.{◌≡◌, ◌*◌, ◌^◌, ◌<◌, ◌≤◌, drop, length, slice_index}
use Rattle.rates_model.specs.Rates.{period_of}
use Rattle.rates_model.specs.Ages.{carried}
use Rattle.endless_schedules.proofs.carrying.carried.Given as goal

abbrev pub invariant-loop-k : goal.invariant-loop-k
invariant-loop-k l = record {
  inside : l.k < length l.through;
  so_far : l.job ≡ carried l.rates (drop l.k l.through) l.fn.job;
  small : l.job * period_of l.rates (slice_index l.through l.k) ≤ 10 ^ 14;
}

abbrev pub decreases-loop-k : goal.decreases-loop-k
decreases-loop-k l = l.k
