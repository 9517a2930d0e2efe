use Rattle.std.proofs.Common.{◌-◌}
use Rattle.plan_questions.specs.Halving.{IsKnown}
use Rattle.plan_questions.proofs.cuts.halve.Given as goal

abbrev pub invariant-halves : goal.invariant-halves
invariant-halves g l = IsKnown (g.C.Cut.cutting l.cut) l.asking.options l.known

abbrev pub decreases-halves : goal.decreases-halves
decreases-halves g l = l.known.high - l.known.low
