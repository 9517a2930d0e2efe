use Rattle.std.proofs.Common.{◌≡◌, ◌++◌, map, take}
use Rattle.plan_cycles.specs.Rounds.{later_window}
use Rattle.plan_cycles.proofs.longer.windows.push_round.Given as goal

abbrev pub invariant-loop-k : goal.invariant-loop-k
invariant-loop-k l = l.windows.items ≡ l.initial.windows.items ++ map (later_window l.round l.ticks) (take l.k l.initial.windows.items)
