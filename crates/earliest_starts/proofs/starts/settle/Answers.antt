use Rattle.std.proofs.Common.{length, arith, ap}
use Rattle.earliest_starts.proofs.Settling.{rank_below}
use Rattle.earliest_starts.proofs.starts.settle.Goals as goal

pub returns-clause-none : goal.returns-clause-none
returns-clause-none c = λ p inside.
    let low = rank_below _ _ p c.requires.of inside in
    c.loop-rank.invariant.1 p inside (omega (arith, low, c.requires.ranks.each p inside, ap length c.processes.ensures.value, c.loop-rank-test.false))
