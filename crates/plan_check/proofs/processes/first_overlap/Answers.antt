use Rattle.std.proofs.Common.{arith, length, ap, below_more}
use Rattle.ttp_model.specs.Plans.{IsApartFromLater}
use Rattle.plan_check.proofs.processes.first_overlap.Goals as goal

pub loop-p-preserved : goal.loop-p-preserved
loop-p-preserved c =
    let apart = IsApartFromLater c.args.instance.now c.args.plan.now in
    below_more apart _ c.loop-p.invariant c.in_default.ensures

pub returns : goal.returns
returns c = λ p inside. c.loop-p.invariant p (omega (arith, ap length c.processes-count.ensures.value))
