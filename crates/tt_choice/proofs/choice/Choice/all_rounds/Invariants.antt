use Rattle.std.proofs.Common.{◌≡◌, ℕ, ◌<◌}
use Rattle.tt_choice.specs.Choice.{least_round, greatest_round}
use Rattle.tt_choice.proofs.choice.Choice.all_rounds.Given as goal

abbrev pub invariant-loop-m : goal.invariant-loop-m
invariant-loop-m l = (k : ℕ) → k < l.m → least_round l.self k ≡ greatest_round l.self k
