use Rattle.std.proofs.Common.{take}
use Rattle.sentences.specs.Lists.{AreTold}
use Rattle.plan_reasons.specs.PathLines.{IsPathPart}
use Rattle.plan_reasons.proofs.path_lines.parts_of.Given as goal

abbrev pub invariant-loop-part : goal.invariant-loop-part
invariant-loop-part l = AreTold (IsPathPart l.instance) (take l.part-index l.parts) l.told.items
