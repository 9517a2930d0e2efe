use Rattle.plan_cycles.proofs.DividingRounds.{divisor_left, divisor_taken, no_divisors}
use Rattle.plan_cycles.proofs.divisors.divisors.Goals.{then-period-ticks-eq0+in_ok-push, else-period-ticks-eq0}
use Rattle.plan_cycles.proofs.divisors.divisors.Goals as goal

pub loop-ticks-init : goal.loop-ticks-init
loop-ticks-init c = rw c.new-rounds.ensures.items (no_divisors c.args.period)

pub loop-ticks-preserved : goal.loop-ticks-preserved
loop-ticks-preserved c =
    let before = c.loop-ticks.rounds.items in
    elim c.if-period-ticks-eq0.branch [
      | then-period-ticks-eq0+in_ok-push w ↦
          rw (w.rounds-is, w.in_ok-push.ensures.items) (divisor_taken c.args.period c.loop-ticks.ticks before c.loop-ticks.invariant w.if-period-ticks-eq0.true)
      | else-period-ticks-eq0 w ↦
          rw w.rounds-is (divisor_left c.args.period c.loop-ticks.ticks before c.loop-ticks.invariant w.if-period-ticks-eq0.false)
    ]
