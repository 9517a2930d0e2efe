use Rattle.std.proofs.Common.{ℕ, ◌<◌, slice_index}
use Rattle.plan_cycles.specs.Sums.{IsReachedBy}
use Rattle.plan_cycles.proofs.sums.is_reached.Given as goal

abbrev pub invariant-loop-capacity : goal.invariant-loop-capacity
invariant-loop-capacity l = (k : ℕ) → k < l.capacity-index → ¬ IsReachedBy l.before l.bytes (slice_index l.capacities k)
