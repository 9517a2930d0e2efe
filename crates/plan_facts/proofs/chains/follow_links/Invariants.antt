use Rattle.std.proofs.Common.{ℕ, ◌+◌, ◌<◌, ◌≤◌, slice_index}
use Rattle.ttp_model.specs.Instance.{link_at, process_at}
use Rattle.plan_facts.specs.Walks.{AreChainEnds, AreKept}
use Rattle.plan_facts.proofs.chains.follow_links.Given as goal

abbrev pub invariant-loop-l : goal.invariant-loop-l
invariant-loop-l l = record {
  chains : AreChainEnds l.instance l.ends.items;
  kept : AreKept l.initial.ends.items l.ends.items;
  reach : (k : ℕ) → k < l.l → slice_index l.initial.ends.items (link_at l.instance k).before + (process_at l.instance (link_at l.instance k).after).wcet ≤
      slice_index l.ends.items (link_at l.instance k).after;
}
