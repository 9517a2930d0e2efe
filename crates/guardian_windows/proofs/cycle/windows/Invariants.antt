use Rattle.std.proofs.Common.{◌≡◌}
use Rattle.std.specs.List.{flat_map, range_with_len}
use Rattle.guardian_windows.specs.Windows.{round_windows}
use Rattle.guardian_windows.proofs.cycle.windows.Given as goal

abbrev pub invariant-loop-round : goal.invariant-loop-round
invariant-loop-round l = l.windows.items ≡ flat_map (round_windows l.instance l.plan) (range_with_len 0 l.round)
