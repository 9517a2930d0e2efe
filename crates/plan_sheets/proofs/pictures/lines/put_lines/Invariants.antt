use Rattle.std.proofs.Common.{◌≡◌, ◌++◌, string_bytes}
use Rattle.std.specs.List.{flat_map, range_with_len}
use Rattle.plan_sheets.specs.DeliveryLines.{message_text}
use Rattle.plan_sheets.proofs.pictures.lines.put_lines.Given as goal

abbrev pub invariant-loop-m : goal.invariant-loop-m
invariant-loop-m l = string_bytes l.text ≡ string_bytes l.initial.text ++ flat_map (message_text l.canvas l.instance l.plan) (range_with_len 0 l.m)
