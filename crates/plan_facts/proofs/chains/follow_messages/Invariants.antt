use Rattle.std.proofs.Common.{ℕ, ◌+◌, ◌<◌, ◌≤◌, slice_index, Contains}
use Rattle.ttp_model.specs.Instance.{message_at, process_at, source_of}
use Rattle.ttp_model.specs.Chains.{least_transfer}
use Rattle.plan_facts.specs.Walks.{AreChainEnds, AreKept}
use Rattle.plan_facts.proofs.chains.follow_messages.Given as goal

abbrev pub invariant-loop-m : goal.invariant-loop-m
invariant-loop-m l = record {
  chains : AreChainEnds l.instance l.ends.items;
  kept : AreKept l.initial.ends.items l.ends.items;
  reach : (k q : ℕ) → k < l.m → Contains (message_at l.instance k).receivers q
      → slice_index l.initial.ends.items (message_at l.instance k).sender + least_transfer l.instance (source_of l.instance k) +
      (process_at l.instance q).wcet ≤ slice_index l.ends.items q;
}
