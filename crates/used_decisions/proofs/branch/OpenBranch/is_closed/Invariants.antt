use Rattle.std.proofs.Common.{ℕ, ◌<◌, IsTrue}
use Rattle.used_decisions.specs.Levels.{has_level}
use Rattle.used_decisions.proofs.branch.OpenBranch.is_closed.Given as goal

abbrev pub invariant-loop-k : goal.invariant-loop-k
invariant-loop-k l = (j : ℕ) → j < l.k → IsTrue (has_level l.self.closed j)
