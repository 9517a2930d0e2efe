use Rattle.std.proofs.Common.{arith}
use Rattle.instance_variants.proofs.LaterPlans.{late_within}
use Rattle.instance_variants.proofs.LaterRules.{same_instance}
use Rattle.evidence.proofs.model.variants.plan_in_time_is_not_late.Goals as goal

pub returns : goal.returns
returns c =
    let i = c.args.instance.now in
    let within = late_within i c.args.plan.now 0 (rw (same_instance i c.nodes-nodes.ensures.instance) c.requires) in
    omega (arith, within, c.lateness.ensures.value)
