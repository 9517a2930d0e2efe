use Rattle.std.proofs.Common.{◌≡◌, ℕ, ◌<◌, ◌↔◌, IsTrue, false, length, slice_index_or}
use Rattle.plan_cycles.proofs.sums.without_nodes.Given as goal

abbrev pub invariant-loop-bytes : goal.invariant-loop-bytes
invariant-loop-bytes l = record {
  all : length l.sums.items ≡ l.bytes;
  each : (k : ℕ) → k < l.bytes → IsTrue (slice_index_or l.sums.items k false) ↔ (k ≡ 0);
}
