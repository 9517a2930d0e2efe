use Rattle.std.proofs.Common.{◌++◌, decimal, map, take}
use Rattle.plan_sheets.specs.Lines.{IsSheet, cells_of, text_of}
use Rattle.plan_sheets.proofs.sheet.Sheet.put_numbers.Given as goal

abbrev pub invariant-loop-number : goal.invariant-loop-number
invariant-loop-number l = IsSheet l.self (text_of l.initial.self) (cells_of l.initial.self ++ map decimal (take l.number-index l.numbers))
