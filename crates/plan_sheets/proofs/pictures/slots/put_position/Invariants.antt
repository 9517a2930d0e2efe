use Rattle.std.proofs.Common.{◌≡◌, ◌++◌, string_bytes}
use Rattle.std.specs.List.{flat_map, range_with_len}
use Rattle.plan_sheets.specs.SlotRectangles.{slot_at}
use Rattle.plan_sheets.proofs.pictures.slots.put_position.Given as goal

abbrev pub invariant-loop-channel : goal.invariant-loop-channel
invariant-loop-channel l = string_bytes l.text ≡ string_bytes l.initial.text ++ flat_map (slot_at l.canvas l.instance l.plan l.load l.round l.k) (range_with_len 0 l.channel)
