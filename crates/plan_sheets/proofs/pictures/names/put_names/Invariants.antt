use Rattle.std.proofs.Common.{◌≡◌, ◌++◌, string_bytes, take}
use Rattle.std.specs.List.{flat_map}
use Rattle.plan_sheets.specs.Names.{name_text}
use Rattle.plan_sheets.proofs.pictures.names.put_names.Given as goal

abbrev pub invariant-loop-m : goal.invariant-loop-m
invariant-loop-m l = string_bytes l.text ≡ string_bytes l.initial.text ++ flat_map (name_text l.instance) (take l.m-index l.messages)
