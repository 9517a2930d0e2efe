use Rattle.std.proofs.Common.{◌≡◌, ℕ, ◌+◌, ◌<◌, length, slice_index}
use Rattle.ttp_model.specs.Instance.{process_at}
use Rattle.plan_facts.proofs.chains.first_ends.Given as goal

abbrev pub invariant-loop-p : goal.invariant-loop-p
invariant-loop-p l = record {
  all : length l.ends.items ≡ l.p;
  each : (k : ℕ) → k < l.p → slice_index l.ends.items k ≡ (process_at l.instance k).release + (process_at l.instance k).wcet;
}
