use Rattle.plan_cycles.proofs.HeldRounds.{round_within}
use Rattle.plan_cycles.proofs.repetition.repetition_of.Goals as goal

pub of-layout-requires-clause-capacities : goal.of-layout-requires-clause-capacities
of-layout-requires-clause-capacities c = rw c.as_slice-2.ensures c.requires.valid.capacities

pub dividing_of-requires-clause-within : goal.dividing_of-requires-clause-within
dividing_of-requires-clause-within c =
    rw (c.round_length-round.ensures.length, c.of-layout.ensures, c.as_slice-2.ensures)
    (round_within c.args.instance.now c.args.plan.now c.nodes-nodes.ensures.instance c.requires.valid c.args.period c.requires.held)
