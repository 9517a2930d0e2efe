use Rattle.std.proofs.Common.{arith}
use Rattle.instance_variants.proofs.LaterPlans.{late_within}
use Rattle.plan_questions.proofs.late.late_cut.own_lateness.Goals as goal

pub overflow_cast-result : goal.overflow_cast-result
overflow_cast-result c =
    let within = late_within c.args.instance.now c.args.plan.now c.args.x c.requires in
    omega (arith, c.lateness.ensures.value, within, c.ranges.x.fits)
