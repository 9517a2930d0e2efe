use Rattle.plan_cycles.specs.Sums.{AreSums}
use Rattle.plan_cycles.proofs.sums.sums_of.Given as goal

abbrev pub invariant-loop-n : goal.invariant-loop-n
invariant-loop-n l = AreSums l.instance l.n l.sums.items
