use Rattle.std.proofs.Common.{◌≡◌, ◌+◌, ◌-◌, arith}
use Rattle.plan_cycles.proofs.DividingRounds.{greatest_found, one_less, some_found}
use Rattle.plan_cycles.proofs.divisors.nearest_below.Goals as goal

pub loop-fewer-init : goal.loop-fewer-init
loop-fewer-init c = λ round above below. absurd (omega (arith, above, below))

pub loop-fewer-preserved : goal.loop-fewer-preserved
loop-fewer-preserved c =
    let ticks = c.args.round - c.loop-fewer.fewer in
    let less : c.args.round - (c.loop-fewer.fewer + 1) ≡ ticks - 1 = omega arith in
    rw less (one_less c.args.period ticks c.args.round (omega (arith, c.loop-fewer-test.true)) c.loop-fewer.invariant c.if-period-ticks-eq0.false)

pub returns-then-period-ticks-eq0 : goal.returns-then-period-ticks-eq0
returns-then-period-ticks-eq0 c =
    greatest_found c.args.period (c.args.round - c.loop-fewer.fewer) c.args.round (omega arith) c.loop-fewer.invariant c.if-period-ticks-eq0.true

pub returns : goal.returns
returns c =
    let none : c.args.round - c.loop-fewer.fewer ≡ 0 = omega (arith, c.loop-fewer-test.false) in
    absurd (some_found c.args.period c.args.round c.requires (rw none at c.loop-fewer.invariant))
