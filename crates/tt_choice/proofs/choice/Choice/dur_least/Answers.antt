use Rattle.ttp_model.specs.declared.error.Place.TheVariants.{AtCluster}
use Rattle.tt_choice.proofs.Exact.{dur_least_is_least}
use Rattle.tt_choice.proofs.choice.Choice.dur_least.Goals as goal

pub slot_duration-requires-clause-ranges : goal.slot_duration-requires-clause-ranges
slot_duration-requires-clause-ranges c = rw c.cluster.ensures.value (c.cluster.ensures.instance.ranges AtCluster)

pub returns-clause-least : goal.returns-clause-least
returns-clause-least c = rw (c.slot_duration.ensures.length, c.cluster.ensures.value, c.cap_least.ensures.value) (dur_least_is_least _ _ c.args.n c.cluster.ensures.instance c.requires.of c.requires.node)
