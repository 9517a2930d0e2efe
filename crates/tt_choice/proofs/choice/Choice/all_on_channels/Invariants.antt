use Rattle.std.proofs.Common.{ℕ, ◌<◌, IsSome}
use Rattle.tt_choice.specs.Choice.{fixed_channel}
use Rattle.tt_choice.proofs.choice.Choice.all_on_channels.Given as goal

abbrev pub invariant-loop-m : goal.invariant-loop-m
invariant-loop-m l = (k : ℕ) → k < l.m → IsSome (fixed_channel l.self k)
