use Rattle.std.proofs.Common.{ℕ, ◌≤◌, length, slice_index}
use Rattle.tt_infer.specs.Reads.{OfSome}
use Rattle.tt_infer.specs.Added.{AddsFacts, TellsRivalWait}
use Rattle.tt_infer.proofs.read_facts.waits.add_rivals.Given as goal

abbrev pub invariant-loop-x : goal.invariant-loop-x
invariant-loop-x l = record {
  within : l.x-index ≤ length l.x-items;
  adds : AddsFacts (OfSome l.x-index (λ (j : ℕ). TellsRivalWait l.facts.instance l.facts.known l.p (slice_index l.x-items j))) l.fn.reads.items l.reads.items;
}
