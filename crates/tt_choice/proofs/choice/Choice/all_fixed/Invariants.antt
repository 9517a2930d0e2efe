use Rattle.std.proofs.Common.{ℕ, ◌<◌, IsSome}
use Rattle.tt_choice.specs.Choice.{fixed_cap}
use Rattle.tt_choice.proofs.choice.Choice.all_fixed.Given as goal

abbrev pub invariant-loop-n : goal.invariant-loop-n
invariant-loop-n l = (k : ℕ) → k < l.n → IsSome (fixed_cap l.self k)
