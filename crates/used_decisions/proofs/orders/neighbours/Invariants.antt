use Rattle.std.proofs.Common.{ℕ, ◌+◌, ◌<◌, slice_index}
use Rattle.used_decisions.specs.Uses.{IsMore}
use Rattle.used_decisions.specs.Steps.{IsReadOf, TellsPair}
use Rattle.used_decisions.proofs.orders.neighbours.Given as goal

abbrev pub invariant-loop-k : goal.invariant-loop-k
invariant-loop-k l = record {
  more : IsMore l.fn.uses l.uses;
  told : IsReadOf l.path l.fn.uses → (j : ℕ) → j < l.k → TellsPair l.path l.given l.uses (slice_index l.ring j) (slice_index l.ring (j + 1));
}
