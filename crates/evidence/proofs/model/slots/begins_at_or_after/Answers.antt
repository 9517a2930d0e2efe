use Rattle.evidence.proofs.model.slots.begins_at_or_after.Goals as goal

pub of-layout-requires-clause-capacities : goal.of-layout-requires-clause-capacities
of-layout-requires-clause-capacities c = rw c.as_slice-2.ensures c.in-Ok.ensures.ok.capacities
