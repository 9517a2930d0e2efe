use Rattle.ttp_model.specs.declared.error.Place.TheVariants.{AtCluster}
use Rattle.tt_choice.proofs.choice.Choice.open.Goals as goal

pub overflow_sub-cluster : goal.overflow_sub-cluster
overflow_sub-cluster c = rw c.cluster.ensures.value (c.cluster.ensures.instance.ranges AtCluster).horizon_least
