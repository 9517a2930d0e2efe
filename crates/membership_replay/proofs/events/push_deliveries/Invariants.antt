use Rattle.std.proofs.Common.{◌≡◌, ◌++◌}
use Rattle.std.specs.List.{flat_map, range_with_len}
use Rattle.membership_replay.specs.Trace.{delivery}
use Rattle.membership_replay.proofs.events.push_deliveries.Given as goal

abbrev pub invariant-loop-m : goal.invariant-loop-m
invariant-loop-m l = l.events.items ≡ l.initial.events.items ++ flat_map (delivery l.i l.messages) (range_with_len 0 l.m)
