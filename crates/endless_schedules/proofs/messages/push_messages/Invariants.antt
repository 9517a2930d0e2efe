use Rattle.std.proofs.Common.{◌≡◌, ◌++◌}
use Rattle.std.specs.List.{flat_map, range_with_len}
use Rattle.endless_schedules.specs.Unrolled.{sent_of}
use Rattle.endless_schedules.proofs.messages.push_messages.Given as goal

abbrev pub invariant-loop-k : goal.invariant-loop-k
invariant-loop-k l = l.list.items ≡ l.initial.list.items ++ flat_map (sent_of l.rates l.m) (range_with_len 0 l.k)
