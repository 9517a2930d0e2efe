use Rattle.std.proofs.Common.{ℕ, ◌<◌, IsSome}
use Rattle.tt_choice.specs.Choice.{fixed_channel}
use Rattle.branch_tree.proofs.branching.rest.free_channel.Given as goal

abbrev pub invariant-loop-m : goal.invariant-loop-m
invariant-loop-m l = (m : ℕ) → m < l.m → IsSome (fixed_channel l.choice m)
