use Rattle.std.proofs.Common.{ℕ, ◌≤◌, length, slice_index}
use Rattle.tt_infer.specs.Reads.{OfSome}
use Rattle.tt_infer.specs.Added.{AddsFacts, KeepsOtherOut}
use Rattle.tt_infer.proofs.read_facts.kept_out.add_others.Given as goal

abbrev pub invariant-loop-k : goal.invariant-loop-k
invariant-loop-k l = record {
  within : l.k-index ≤ length l.k-items;
  adds : AddsFacts (OfSome l.k-index (λ (j : ℕ). KeepsOtherOut l.facts.instance l.facts.known l.m l.r (slice_index l.k-items j))) l.fn.reads.items l.reads.items;
}
