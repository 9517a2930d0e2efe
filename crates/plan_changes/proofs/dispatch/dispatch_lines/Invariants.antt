use Rattle.std.proofs.Common.{◌≡◌, take}
use Rattle.std.specs.List.{flat_map}
use Rattle.plan_changes.specs.Dispatch.{dispatch_line}
use Rattle.plan_changes.proofs.dispatch.dispatch_lines.Given as goal

abbrev pub invariant-loop-p : goal.invariant-loop-p
invariant-loop-p l = l.text.items ≡ flat_map (dispatch_line l.planned) (take l.p-index l.processes)
