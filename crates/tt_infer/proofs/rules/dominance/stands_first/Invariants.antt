use Rattle.std.proofs.Common.{◌≢◌, ℕ, ◌<◌, slice_index}
use Rattle.tt_infer.proofs.rules.dominance.stands_first.Given as goal

abbrev pub invariant-loop-k : goal.invariant-loop-k
invariant-loop-k l = record {
  without_v : (j : ℕ) → j < l.k → slice_index l.order j ≢ l.v;
  without_u : (j : ℕ) → j < l.k → slice_index l.order j ≢ l.u;
}
