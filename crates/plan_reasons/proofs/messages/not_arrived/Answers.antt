use Rattle.plan_reasons.proofs.messages.not_arrived.Goals as goal

pub of-layout-requires-clause-capacities : goal.of-layout-requires-clause-capacities
of-layout-requires-clause-capacities c = rw c.as_slice-2.ensures c.requires.laid.capacities
