use Rattle.std.proofs.Common.{◌≡◌, ◌≤◌, ◌*◌}
use Rattle.ttp_model.specs.Totals.{total}
use Rattle.tt_choice.specs.Sizes.{range_size}
use Rattle.tt_choice.proofs.choice.Choice.range_sizes.Given as goal

abbrev pub invariant-loop-m : goal.invariant-loop-m
invariant-loop-m l = (l.sizes ≡ total (range_size l.self) l.m) × (l.sizes ≤ l.m * 32)
