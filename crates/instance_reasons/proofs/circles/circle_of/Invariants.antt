use Rattle.std.specs.List.{range_with_len}
use Rattle.sentences.specs.Lists.{AreTold}
use Rattle.ttp_model.specs.Parts.{instance_of}
use Rattle.instance_reasons.specs.Circles.{IsCircleStep}
use Rattle.instance_reasons.proofs.circles.circle_of.Given as goal

abbrev pub invariant-loop-k : goal.invariant-loop-k
invariant-loop-k l = AreTold (IsCircleStep (instance_of l.parts) l.processes) (range_with_len 0 l.k) l.steps.items
