use Rattle.used_decisions.proofs.Counted.{AreForgotten}
use Rattle.used_decisions.proofs.flags.forget.Given as goal

abbrev pub invariant-loop-k : goal.invariant-loop-k
invariant-loop-k l = AreForgotten l.fn.counts.items l.counts.items l.k
