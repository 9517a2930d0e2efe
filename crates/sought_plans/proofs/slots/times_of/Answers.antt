use Rattle.std.proofs.Common.{arith}
use Rattle.ttp_model.specs.declared.error.Place.TheVariants.{AtCluster}
use Rattle.sought_plans.proofs.CodeSlots.{round_least_short, round_most_short}
use Rattle.sought_plans.proofs.slots.times_of.Goals as goal

pub slot_duration-requires-clause-ranges : goal.slot_duration-requires-clause-ranges
slot_duration-requires-clause-ranges c = rw c.cluster.ensures.value (c.cluster.ensures.instance.ranges AtCluster)

pub returns-clause-short : goal.returns-clause-short
returns-clause-short c =
    let instance = c.nodes-nodes.ensures.instance in
    let least = round_least_short _ _ instance c.requires.of in
    let most = round_most_short _ _ instance c.requires.of in
    record {
      some_least = omega (arith, least.0);
      some_most = omega (arith, most.0);
      round_least = omega (arith, least.1);
      round_most = omega (arith, most.1);
      offset_least = omega arith;
      offset_most = omega arith;
      dur_least = omega arith;
      dur_most = omega arith;
      cap_least = omega arith;
      cap_most = omega arith;
    }
