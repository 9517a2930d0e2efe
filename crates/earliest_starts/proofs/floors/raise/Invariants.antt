use Rattle.std.proofs.Common.{◌≡◌, ℕ, ◌<◌, ◌≤◌, ◌⊎◌, length, slice_index, Contains}
use Rattle.earliest_starts.proofs.floors.raise.Given as goal

abbrev pub invariant-loop-p : goal.invariant-loop-p
invariant-loop-p l = record {
  all : length l.times.items ≡ length l.initial.times.items;
  kept : (k : ℕ) → slice_index l.initial.times.items k ≤ slice_index l.times.items k;
  raised : (k : ℕ) → k < l.p-index → l.time ≤ slice_index l.times.items (slice_index l.processes k);
  cause : (k : ℕ) → (slice_index l.times.items k ≡ slice_index l.initial.times.items k) ⊎ (Contains l.processes k × (slice_index l.times.items k ≡ l.time));
}
