use Rattle.std.proofs.Common.{◌+◌, ◌<◌, ◌≤◌, ℕ, slice_index}
use Rattle.ttp_model.specs.declared.limits.TheConstants.{MOST_BYTES}
use Rattle.ttp_model.proofs.rules.ranges.is_capacity_list.Given as goal

abbrev pub invariant-loop-k : goal.invariant-loop-k
invariant-loop-k l = ((j : ℕ) → j < l.k → slice_index l.capacities j ≤ MOST_BYTES) × ((j : ℕ) → j + 1 < l.k → slice_index l.capacities j < slice_index l.capacities (j + 1))
