use Rattle.std.proofs.Common.{arith}
use Rattle.evidence.proofs.Judged.{refused}
use Rattle.evidence.proofs.model.plans.end_past_the_horizon.Goals as goal

pub returns : goal.returns
returns c =
    λ here past. refused c.args.instance.now c.args.plan.now _ c.check.ensures.ok (λ valid. absurd (omega (arith, past, (valid.in_time c.args.p here).1)))
