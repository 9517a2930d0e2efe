use Rattle.std.proofs.Common.{[], ◌++◌}
use Rattle.std.specs.List.{flat_map, range_with_len}
use Rattle.plan_sheets.specs.Lines.{IsSheet, text_of}
use Rattle.plan_sheets.specs.Slots.{slot_text}
use Rattle.plan_sheets.proofs.slots.put_position.Given as goal

abbrev pub invariant-loop-channel : goal.invariant-loop-channel
invariant-loop-channel l = IsSheet l.sheet (text_of l.initial.sheet ++ flat_map (slot_text l.instance l.plan l.round l.k) (range_with_len 0 l.channel)) []
