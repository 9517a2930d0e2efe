use Rattle.std.proofs.Common.{ℕ, ◌<◌, slice_index, IsTrue}
use Rattle.tt_choice.specs.Choice.{is_before}
use Rattle.earliest_starts.proofs.ranks.disorder.Given as goal

abbrev pub invariant-loop-p : goal.invariant-loop-p
invariant-loop-p l = (j k : ℕ) → k < l.p → j < l.count → IsTrue (is_before l.choice j k) → slice_index l.ranks j < slice_index l.ranks k
