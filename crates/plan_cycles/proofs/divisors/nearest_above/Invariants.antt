use Rattle.plan_cycles.proofs.DividingRounds.{NoneFrom}
use Rattle.plan_cycles.proofs.divisors.nearest_above.Given as goal

abbrev pub invariant-loop-ticks : goal.invariant-loop-ticks
invariant-loop-ticks l = NoneFrom l.period l.round l.ticks
