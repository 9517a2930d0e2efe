use Rattle.std.proofs.Common.{◌≡◌, arith}
use Rattle.plan_cycles.proofs.DividingRounds.{least_found, one_more, whole_found}
use Rattle.plan_cycles.proofs.divisors.nearest_above.Goals as goal

pub loop-ticks-init : goal.loop-ticks-init
loop-ticks-init c = λ round above below. absurd (omega (arith, above, below))

pub loop-ticks-preserved : goal.loop-ticks-preserved
loop-ticks-preserved c = one_more c.args.period c.args.round c.loop-ticks.ticks c.loop-ticks.invariant c.if-period-ticks-eq0.false

pub returns-then-period-ticks-eq0 : goal.returns-then-period-ticks-eq0
returns-then-period-ticks-eq0 c =
    least_found c.args.period c.args.round c.loop-ticks.ticks c.loop-ticks.auto.ticks c.loop-ticks.invariant c.if-period-ticks-eq0.true

pub returns : goal.returns
returns c =
    let all : c.loop-ticks.ticks ≡ c.args.period = omega (arith, c.loop-ticks-test.false, c.loop-ticks.auto.ticks-end c.requires.within) in
    whole_found c.args.period c.args.round c.requires.within (rw all at c.loop-ticks.invariant)
