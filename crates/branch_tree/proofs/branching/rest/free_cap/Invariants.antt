use Rattle.std.proofs.Common.{ℕ, ◌<◌, IsSome}
use Rattle.tt_choice.specs.Choice.{fixed_cap}
use Rattle.branch_tree.proofs.branching.rest.free_cap.Given as goal

abbrev pub invariant-loop-n : goal.invariant-loop-n
invariant-loop-n l = (n : ℕ) → n < l.n → IsSome (fixed_cap l.choice n)
