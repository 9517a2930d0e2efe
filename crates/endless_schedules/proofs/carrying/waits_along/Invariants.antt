use Rattle.std.proofs.Common.{◌≡◌, ◌+◌, map, slice_index}
use Rattle.std.specs.List.{range_with_len}
use Rattle.rates_model.specs.Ages.{wait_of}
use Rattle.endless_schedules.proofs.carrying.waits_along.Given as goal

abbrev pub invariant-loop-k : goal.invariant-loop-k
invariant-loop-k l = l.waits.items ≡ map (λ k. wait_of l.rates (slice_index l.through k) (slice_index l.through (k + 1))) (range_with_len 0 l.k)
