use Rattle.std.proofs.Common.{arith}
use Rattle.std.proofs.lemmas.Grind.{div_ceil_times}
use Rattle.ttp_model.specs.Delays.{delay}
use Rattle.ttp_model.specs.Slots.{round_length}
use Rattle.ttp_model.specs.declared.error.Place.TheVariants.{AtCluster}
use Rattle.tt_layout.proofs.Bounds.{round_positive}
use Rattle.evidence.proofs.model.slots.cycle_past_delay.Goals as goal

pub returns : goal.returns
returns c =
    let i = c.args.instance.now in
    let plan = c.args.plan.now in
    let lawful = c.nodes-nodes.ensures.instance in
    let some = round_positive i.cluster plan.caps (lawful.ranges AtCluster) (omega (arith, c.in-Ok.ensures.ok.lengths.capacities, lawful.limits.nodes_least)) in
    rw c.cycle_rounds.ensures.value (div_ceil_times (delay i plan) (round_length i.cluster plan.caps) some).0
