use Rattle.std.proofs.Common.{◌≡◌}
use Rattle.std.specs.List.{flat_map, range_with_len}
use Rattle.membership_replay.specs.Trace.{node_events, row_at}
use Rattle.membership_replay.proofs.events.events_of.Given as goal

abbrev pub invariant-loop-i : goal.invariant-loop-i
invariant-loop-i l = l.events.items ≡ flat_map (λ i. node_events (row_at l.medl 0 l.slot) l.losses (row_at l.medl i l.slot).messages l.states i) (range_with_len 0 l.i)
