use Rattle.std.proofs.Common.{ℕ, ◌<◌, IsTrue}
use Rattle.tt_choice.specs.Choice.{is_before}
use Rattle.earliest_starts.proofs.ranks.before_first_alone.Given as goal

abbrev pub invariant-loop-r : goal.invariant-loop-r
invariant-loop-r l = (k : ℕ) → k < l.r → IsTrue (is_before l.choice k l.first) → IsTrue (is_before l.choice k l.second)
