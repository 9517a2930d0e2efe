use Rattle.std.proofs.Common.{◌≡◌, map}
use Rattle.std.specs.List.{range_with_len}
use Rattle.membership_replay.specs.Trace.{first_state}
use Rattle.membership_replay.proofs.node.first_states.Given as goal

abbrev pub invariant-loop-i : goal.invariant-loop-i
invariant-loop-i l = l.states.items ≡ map (λ i. first_state l.count) (range_with_len 0 l._i)
