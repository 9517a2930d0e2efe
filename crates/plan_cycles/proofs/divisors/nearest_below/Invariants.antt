use Rattle.std.proofs.Common.{◌-◌}
use Rattle.plan_cycles.proofs.DividingRounds.{NoneBetween}
use Rattle.plan_cycles.proofs.divisors.nearest_below.Given as goal

abbrev pub invariant-loop-fewer : goal.invariant-loop-fewer
invariant-loop-fewer l = NoneBetween l.period (l.round - l.fewer) l.round
