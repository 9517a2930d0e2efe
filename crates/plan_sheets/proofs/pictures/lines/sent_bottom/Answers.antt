use Rattle.std.proofs.Common.{◌≤◌, arith}
use Rattle.ttp_model.specs.declared.error.Place.TheVariants.{AtCluster}
use Rattle.plan_sheets.proofs.pictures.lines.sent_bottom.Goals as goal

pub overflow_sub-last : goal.overflow_sub-last
overflow_sub-last c =
    let some : 1 ≤ c.cluster.result.now.channels = rw c.cluster.ensures.value (c.cluster.ensures.instance.ranges AtCluster).channels_least in
    omega (arith, some)
