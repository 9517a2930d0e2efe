use Rattle.std.proofs.Common.{◌≤◌, arith}
use Rattle.ttp_model.specs.declared.error.Place.TheVariants.{AtCluster}
use Rattle.ttp_model.specs.Limits.{most_channels}
use Rattle.schedule_exports.proofs.counts.times_told.Goals as goal

pub returns-in-Trace-clause-few : goal.returns-in-Trace-clause-few
returns-in-Trace-clause-few c =
    let channels : c.cluster.result.now.channels ≤ most_channels = rw c.cluster.ensures.value (c.cluster.ensures.instance.ranges AtCluster).channels in
    omega (arith, channels)
