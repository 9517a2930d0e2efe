use Rattle.std.proofs.Common.{ℕ, ◌≤◌, length, slice_index}
use Rattle.tt_infer.specs.Reads.{OfSome}
use Rattle.tt_infer.specs.Added.{AddsFacts, BoundsRunWithin}
use Rattle.tt_infer.proofs.read_facts.spans.add_load.Given as goal

abbrev pub invariant-loop-p : goal.invariant-loop-p
invariant-loop-p l = record {
  within : l.p-index ≤ length l.p-items;
  adds : AddsFacts (OfSome l.p-index (λ (j : ℕ). BoundsRunWithin l.facts.instance l.facts.known l.n l.a l.b (slice_index l.p-items j))) l.fn.reads.items l.reads.items;
}
