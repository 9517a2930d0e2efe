use Rattle.std.proofs.Common.{ℕ, ◌+◌, ◌<◌, ◌≤◌, slice_index}
use Rattle.ttp_model.specs.Instance.{message_at, process_at}
use Rattle.plan_facts.specs.Walks.{AreChainEnds, AreKept}
use Rattle.plan_facts.proofs.chains.follow_message.Given as goal

abbrev pub invariant-loop-q : goal.invariant-loop-q
invariant-loop-q l = record {
  chains : AreChainEnds l.instance l.ends.items;
  kept : AreKept l.initial.ends.items l.ends.items;
  reach : (k : ℕ) → k < l.q-index → l.arrival + (process_at l.instance (slice_index (message_at l.instance l.m).receivers k)).wcet ≤ slice_index l.ends.items
      (slice_index (message_at l.instance l.m).receivers k);
}
