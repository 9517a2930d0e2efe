use Rattle.std.proofs.Common.{take}
use Rattle.sentences.specs.Lists.{AreTold}
use Rattle.plan_reasons.specs.PlanLines.{IsLineOf}
use Rattle.plan_reasons.proofs.plan_lines.lines_of.Given as goal

abbrev pub invariant-loop-link : goal.invariant-loop-link
invariant-loop-link l = AreTold (IsLineOf l.instance l.plan) (take l.link-index l.links) l.lines.items
