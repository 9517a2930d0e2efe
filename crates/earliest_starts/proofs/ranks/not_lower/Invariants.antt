use Rattle.std.proofs.Common.{ℕ, ◌<◌, slice_index, IsTrue}
use Rattle.tt_choice.specs.Choice.{is_before}
use Rattle.earliest_starts.proofs.ranks.not_lower.Given as goal

abbrev pub invariant-loop-q : goal.invariant-loop-q
invariant-loop-q l = (k : ℕ) → k < l.q → IsTrue (is_before l.choice k l.p) → slice_index l.ranks k < slice_index l.ranks l.p
