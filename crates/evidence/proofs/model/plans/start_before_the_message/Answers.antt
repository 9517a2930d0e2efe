use Rattle.std.proofs.Common.{arith}
use Rattle.evidence.proofs.Judged.{refused}
use Rattle.evidence.proofs.model.plans.start_before_the_message.Goals as goal

pub returns : goal.returns
returns c = λ message receiver early. refused c.args.instance.now c.args.plan.now _ c.check.ensures.ok
    (λ valid. absurd (omega (arith, early, valid.arrived c.args.m message c.args.k receiver)))
