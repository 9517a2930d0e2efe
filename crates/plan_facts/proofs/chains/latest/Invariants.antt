use Rattle.std.proofs.Common.{◌≡◌, ℕ, ◌<◌, ◌≤◌, length, slice_index}
use Rattle.plan_facts.proofs.chains.latest.Given as goal

abbrev pub invariant-loop-end : goal.invariant-loop-end
invariant-loop-end l = record {
  reached : (k : ℕ) × (k < length l.ends) × (slice_index l.ends k ≡ l.latest);
  greatest : (k : ℕ) → k < l.end-index → slice_index l.ends k ≤ l.latest;
}
