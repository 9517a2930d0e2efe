use Rattle.std.proofs.Common.{take}
use Rattle.sentences.specs.Lists.{AreTold}
use Rattle.plan_reasons.specs.LateLines.{IsLateProcess}
use Rattle.plan_reasons.proofs.late_lines.processes_of.Given as goal

abbrev pub invariant-loop-part : goal.invariant-loop-part
invariant-loop-part l = AreTold (IsLateProcess l.instance) (take l.part-index l.parts) l.told.items
