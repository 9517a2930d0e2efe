use Rattle.std.proofs.Common.{ℕ, ◌≤◌, length, slice_index}
use Rattle.tt_infer.specs.Reads.{OfSome}
use Rattle.tt_infer.specs.Added.{AddsFacts, BoundsCounted}
use Rattle.tt_infer.proofs.read_facts.spans.add_channel.Given as goal

abbrev pub invariant-loop-m : goal.invariant-loop-m
invariant-loop-m l = record {
  within : l.m-index ≤ length l.m-items;
  adds : AddsFacts (OfSome l.m-index (λ (j : ℕ). BoundsCounted l.facts.instance l.facts.choice l.facts.known l.k l.n l.a l.b (slice_index l.m-items j))) l.fn.reads.items l.reads.items;
}
