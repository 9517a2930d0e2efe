use Rattle.std.proofs.Common.{◌≡◌, map}
use Rattle.std.specs.List.{range_with_len}
use Rattle.membership_replay.specs.Trace.{next_state}
use Rattle.membership_replay.proofs.node.next_states.Given as goal

abbrev pub invariant-loop-i : goal.invariant-loop-i
invariant-loop-i l = l.next.items ≡ map (next_state l.row l.losses l.states) (range_with_len 0 l.i)
