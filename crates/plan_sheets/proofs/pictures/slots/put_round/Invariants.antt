use Rattle.std.proofs.Common.{◌≡◌, ◌++◌, string_bytes}
use Rattle.std.specs.List.{flat_map, range_with_len}
use Rattle.plan_sheets.specs.SlotRectangles.{position_slots}
use Rattle.plan_sheets.proofs.pictures.slots.put_round.Given as goal

abbrev pub invariant-loop-k : goal.invariant-loop-k
invariant-loop-k l = string_bytes l.text ≡ string_bytes l.initial.text ++ flat_map (position_slots l.canvas l.instance l.plan l.load l.round) (range_with_len 0 l.k)
