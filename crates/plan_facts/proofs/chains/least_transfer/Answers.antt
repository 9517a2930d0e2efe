use Rattle.std.proofs.Common.{arith}
use Rattle.ttp_model.specs.declared.error.Place.TheVariants.{AtCluster}
use Rattle.ttp_model.specs.Rules.{IsClusterInRange}
use Rattle.plan_facts.proofs.chains.least_transfer.Goals as goal

pub slot_duration-slot-requires-clause-ranges : goal.slot_duration-slot-requires-clause-ranges
slot_duration-slot-requires-clause-ranges c = rw c.cluster-cluster.ensures.value (c.cluster-cluster.ensures.instance.ranges AtCluster)

pub overflow_add-result-2 : goal.overflow_add-result-2
overflow_add-result-2 c =
    let ranges : IsClusterInRange c.cluster-cluster.result.now = rw c.cluster-cluster.ensures.value (c.cluster-cluster.ensures.instance.ranges AtCluster) in
    omega (arith, c.from.ensures, c.from-2.ensures, ranges.copy_out, ranges.copy_in, c.slot_duration-slot.ensures.bound)

pub returns-clause-small : goal.returns-clause-small
returns-clause-small c =
    let ranges : IsClusterInRange c.cluster-cluster.result.now = rw c.cluster-cluster.ensures.value (c.cluster-cluster.ensures.instance.ranges AtCluster) in
    omega (arith, c.from.ensures, c.from-2.ensures, ranges.copy_out, ranges.copy_in, c.slot_duration-slot.ensures.bound)
