use Rattle.std.proofs.Common.{arith}
use Rattle.tt_layout.proofs.CycleBounds.{div_ceil-le}
use Rattle.tt_layout.proofs.cycle.cycle_rounds.Goals as goal

pub of-layout-requires-clause-capacities : goal.of-layout-requires-clause-capacities
of-layout-requires-clause-capacities c = rw c.as_slice-2.ensures c.requires.capacities

pub overflow_cast-result : goal.overflow_cast-result
overflow_cast-result c =
    omega (arith, c.div_ceil.ensures, div_ceil-le c.delay.result c.round_length.result c.round_length.ensures.some, c.delay.ensures.valid c.requires)

pub returns-clause-bound : goal.returns-clause-bound
returns-clause-bound c =
    omega (arith, c.div_ceil.ensures, div_ceil-le c.delay.result c.round_length.result c.round_length.ensures.some, c.delay.ensures.valid c.requires)
