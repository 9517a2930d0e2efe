use Rattle.std.proofs.Common.{arith}
use Rattle.plan_reasons.proofs.FirstRounds.{first_named}
use Rattle.plan_reasons.proofs.messages.first_round.Goals as goal

pub of-layout-requires-clause-capacities : goal.of-layout-requires-clause-capacities
of-layout-requires-clause-capacities c = rw c.as_slice-2.ensures c.requires.laid.capacities

pub overflow_cast-result : goal.overflow_cast-result
overflow_cast-result c =
    omega (
      arith,
      first_named c.args.instance.now c.args.plan.now c.args.m c.first_in_time-round.result c.nodes-nodes.ensures.instance c.requires.laid
          c.requires.inside c.requires.in_time c.first_in_time-round.ensures,
    )
