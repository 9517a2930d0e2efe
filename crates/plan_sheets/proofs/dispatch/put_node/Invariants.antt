use Rattle.std.proofs.Common.{[], ◌++◌, take}
use Rattle.std.specs.List.{flat_map}
use Rattle.plan_sheets.specs.Dispatch.{dispatch_text}
use Rattle.plan_sheets.specs.Lines.{IsSheet, text_of}
use Rattle.plan_sheets.proofs.dispatch.put_node.Given as goal

abbrev pub invariant-loop-p : goal.invariant-loop-p
invariant-loop-p l = IsSheet l.sheet (text_of l.initial.sheet ++ flat_map (dispatch_text l.instance l.plan) (take l.p-index l.processes)) []
