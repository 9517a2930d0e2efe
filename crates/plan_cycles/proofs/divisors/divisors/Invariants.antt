use Rattle.plan_cycles.specs.Divisors.{AreDivisors}
use Rattle.plan_cycles.proofs.divisors.divisors.Given as goal

abbrev pub invariant-loop-ticks : goal.invariant-loop-ticks
invariant-loop-ticks l = AreDivisors l.period l.ticks l.rounds.items
