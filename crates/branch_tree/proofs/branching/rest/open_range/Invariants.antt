use Rattle.std.proofs.Common.{◌≡◌, ℕ, ◌<◌}
use Rattle.tt_choice.specs.Choice.{least_round, greatest_round}
use Rattle.branch_tree.proofs.branching.rest.open_range.Given as goal

abbrev pub invariant-loop-m : goal.invariant-loop-m
invariant-loop-m l = (m : ℕ) → m < l.m → least_round l.choice m ≡ greatest_round l.choice m
