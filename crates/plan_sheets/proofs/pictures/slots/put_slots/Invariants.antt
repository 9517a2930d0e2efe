use Rattle.std.proofs.Common.{◌≡◌, ◌++◌, string_bytes}
use Rattle.std.specs.List.{flat_map, range_with_len}
use Rattle.plan_sheets.specs.SlotRectangles.{round_slots}
use Rattle.plan_sheets.proofs.pictures.slots.put_slots.Given as goal

abbrev pub invariant-loop-round : goal.invariant-loop-round
invariant-loop-round l = string_bytes l.text ≡ string_bytes l.initial.text ++ flat_map (round_slots l.canvas l.instance l.plan l.load) (range_with_len 0 l.round)
