use Rattle.std.proofs.Common.{◌≡◌, ℕ, ◌<◌, length, slice_index}
use Rattle.ttp_model.specs.Instance.{process_at}
use Rattle.earliest_starts.proofs.floors.releases.Given as goal

abbrev pub invariant-loop-p : goal.invariant-loop-p
invariant-loop-p l =
    (length l.times.items ≡ l.p)
    × ((k : ℕ) → k < l.p → slice_index l.times.items k ≡ (process_at l.instance k).release)
