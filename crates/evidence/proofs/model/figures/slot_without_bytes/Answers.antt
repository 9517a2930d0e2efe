use Rattle.ttp_model.specs.declared.error.Place.TheVariants.{AtCluster}
use Rattle.evidence.proofs.model.figures.slot_without_bytes.Goals as goal

pub slot_duration-requires-clause-ranges : goal.slot_duration-requires-clause-ranges
slot_duration-requires-clause-ranges c = rw c.cluster.ensures.value (c.cluster.ensures.instance.ranges AtCluster)
