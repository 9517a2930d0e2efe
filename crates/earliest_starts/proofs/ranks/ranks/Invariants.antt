use Rattle.std.proofs.Common.{◌≡◌, ℕ, ◌<◌, length, slice_index}
use Rattle.earliest_starts.specs.Ranks.{rank}
use Rattle.earliest_starts.proofs.ranks.ranks.Given as goal

abbrev pub invariant-loop-p : goal.invariant-loop-p
invariant-loop-p l =
    (length l.ranks.items ≡ l.p)
    × ((k : ℕ) → k < l.p → slice_index l.ranks.items k ≡ rank l.instance l.choice k)
