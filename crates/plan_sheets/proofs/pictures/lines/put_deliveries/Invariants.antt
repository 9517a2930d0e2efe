use Rattle.std.proofs.Common.{◌≡◌, ◌++◌, string_bytes, take}
use Rattle.std.specs.List.{flat_map}
use Rattle.plan_sheets.specs.DeliveryLines.{delivery_text}
use Rattle.plan_sheets.proofs.pictures.lines.put_deliveries.Given as goal

abbrev pub invariant-loop-q : goal.invariant-loop-q
invariant-loop-q l = string_bytes l.text ≡ string_bytes l.initial.text ++ flat_map (delivery_text l.canvas l.instance l.plan l.m) (take l.q-index l.receivers)
