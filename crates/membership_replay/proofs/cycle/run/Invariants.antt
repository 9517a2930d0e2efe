use Rattle.std.proofs.Common.{◌≡◌, length, map}
use Rattle.std.specs.List.{range_with_len}
use Rattle.membership_replay.specs.Trace.{slot_of, states_before}
use Rattle.membership_replay.proofs.cycle.run.Given as goal

abbrev pub invariant-loop-slot : goal.invariant-loop-slot
invariant-loop-slot l = record {
  slots : l.slots.items ≡ map (slot_of l.medl l.losses) (range_with_len 0 l.slot);
  states : l.states.items ≡ states_before l.medl l.losses l.slot;
  count : length l.states.items ≡ length l.medl.rows;
}
