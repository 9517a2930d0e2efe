use Rattle.std.proofs.Common.{◌≡◌, ◌≤◌, length}
use Rattle.std.specs.List.{flat_map, range_with_len}
use Rattle.ttp_model.specs.Limits.{most_messages}
use Rattle.endless_schedules.specs.Unrolled.{messages_of}
use Rattle.endless_schedules.proofs.messages.all_messages.Given as goal

abbrev pub invariant-loop-m : goal.invariant-loop-m
invariant-loop-m l = (l.messages.items ≡ flat_map (messages_of l.rates) (range_with_len 0 l.m)) × (length l.messages.items ≤ most_messages)
