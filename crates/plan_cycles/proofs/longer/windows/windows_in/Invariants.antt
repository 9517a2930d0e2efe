use Rattle.std.proofs.Common.{◌≡◌}
use Rattle.plan_cycles.specs.Rounds.{windows_in}
use Rattle.plan_cycles.proofs.longer.windows.windows_in.Given as goal

abbrev pub invariant-loop-round : goal.invariant-loop-round
invariant-loop-round l = l.windows.items ≡ windows_in l.round l.instance l.plan
