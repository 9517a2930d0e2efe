use Rattle.std.proofs.Common.{◌≡◌, ◌+◌, ◌-◌, ◌*◌, ◌%◌, arith, sym}
use Rattle.rates_model.specs.Cycles.{least_times}
use Rattle.rates_model.proofs.Multiples.{least_times_is, whole_at_last}
use Rattle.rates_model.proofs.finer.finer_ticks.Goals as goal

pub returns-then-from-eq0-clause-value : goal.returns-then-from-eq0-clause-value
returns-then-from-eq0-clause-value c =
    let whole : c.args.rest * (c.loop-k.k + 1) % c.args.slots ≡ 0 =
    rw (c.from.ensures, c.from-in-loop-k.ensures, c.from-in-loop-k-2.ensures) at c.if-from-eq0.true in
    sym (least_times_is c.args.rest c.args.slots c.requires.some c.loop-k.k whole c.loop-k.invariant)

pub returns-clause-value : goal.returns-clause-value
returns-clause-value c =
    let last = whole_at_last c.args.rest c.args.slots c.requires.some in
    let is : least_times c.args.rest c.args.slots ≡ c.args.slots - 1 + 1 =
    least_times_is c.args.rest c.args.slots c.requires.some (c.args.slots - 1) last
    (λ i below. c.loop-k.invariant i (omega (arith, below, c.loop-k-test.false))) in
    omega (arith, is, c.requires.some)
