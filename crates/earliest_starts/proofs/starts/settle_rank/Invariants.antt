use Rattle.std.proofs.Common.{◌≡◌, ℕ, ◌<◌, ◌⊎◌, length, slice_index}
use Rattle.earliest_starts.specs.Starts.{StartsInTime}
use Rattle.earliest_starts.proofs.starts.settle_rank.Given as goal

abbrev pub invariant-loop-p : goal.invariant-loop-p
invariant-loop-p l =
    (length l.starts.items ≡ length l.instance.processes)
    × ((p : ℕ) → p < length l.instance.processes
    → (slice_index l.ranks p < l.rank) ⊎ ((slice_index l.ranks p ≡ l.rank) × (p < l.p))
    → StartsInTime l.instance l.choice l.floors l.starts.items p)
