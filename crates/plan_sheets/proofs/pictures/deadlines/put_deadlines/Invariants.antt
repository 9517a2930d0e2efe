use Rattle.std.proofs.Common.{◌≡◌, ◌++◌, string_bytes}
use Rattle.std.specs.List.{flat_map, range_with_len}
use Rattle.plan_sheets.specs.Deadlines.{deadline_piece}
use Rattle.plan_sheets.proofs.pictures.deadlines.put_deadlines.Given as goal

abbrev pub invariant-loop-p : goal.invariant-loop-p
invariant-loop-p l = string_bytes l.text ≡ string_bytes l.initial.text ++ flat_map (deadline_piece l.canvas l.instance) (range_with_len 0 l.p)
