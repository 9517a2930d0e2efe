use Rattle.used_decisions.specs.Heights.{AreTaken}
use Rattle.used_decisions.proofs.heights.take_off.Given as goal

abbrev pub invariant-loop-k : goal.invariant-loop-k
invariant-loop-k l = AreTaken l._k l.most l.fn.heights.items l.heights.items
