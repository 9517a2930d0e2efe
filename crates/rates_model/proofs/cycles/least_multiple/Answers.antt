use Rattle.std.proofs.Common.{arith}
use Rattle.ttp_model.specs.Limits.{most_ticks}
use Rattle.rates_model.proofs.Multiples.{least_multiple_is, least_multiple_past, times_within}
use Rattle.rates_model.proofs.cycles.least_multiple.Goals as goal

pub returns-then-multiple-period-eq0 : goal.returns-then-multiple-period-eq0
returns-then-multiple-period-eq0 c = (
  least_multiple_is c.args.ticks c.args.period c.loop-k.k c.requires.period c.if-multiple-period-eq0.true c.loop-k.invariant,
  times_within c.args.ticks c.loop-k.k most_ticks (omega arith),
)

pub returns : goal.returns
returns c = least_multiple_past c.args.ticks c.args.period c.loop-k.k most_ticks c.requires.some c.requires.period (omega arith) c.loop-k.invariant
