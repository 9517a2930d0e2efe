use Rattle.std.proofs.Common.{arith}
use Rattle.ttp_model.specs.declared.error.Place.TheVariants.{AtCluster}
use Rattle.ttp_model.proofs.instance.Instance.past_horizon.Goals as goal

pub overflow_add-result : goal.overflow_add-result
overflow_add-result c =
    let range = (c.cluster.ensures.instance.ranges AtCluster).horizon in
    rw c.cluster.ensures.value (omega (arith, range))
