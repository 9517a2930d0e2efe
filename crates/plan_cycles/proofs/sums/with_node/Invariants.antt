use Rattle.plan_cycles.specs.Sums.{AreReached}
use Rattle.plan_cycles.proofs.sums.with_node.Given as goal

abbrev pub invariant-loop-bytes : goal.invariant-loop-bytes
invariant-loop-bytes l = AreReached l.before l.capacities l.bytes l.sums.items
