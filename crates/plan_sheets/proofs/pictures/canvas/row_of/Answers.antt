use Rattle.std.proofs.Common.{◌≤◌, arith}
use Rattle.ttp_model.specs.declared.error.Place.TheVariants.{AtCluster}
use Rattle.ttp_model.specs.Limits.{most_channels}
use Rattle.plan_sheets.proofs.pictures.canvas.row_of.Goals as goal

pub overflow_add-result : goal.overflow_add-result
overflow_add-result c =
    let few : c.cluster.result.now.channels ≤ most_channels = rw c.cluster.ensures.value (c.cluster.ensures.instance.ranges AtCluster).channels in
    omega (arith, few, c.requires, c.nodes-nodes.ensures.instance.limits.nodes)
