use Rattle.std.proofs.Common.{arith, inr, refl}
use Rattle.plan_commands.proofs.Prints.{too_long}
use Rattle.plan_commands.proofs.printed.printed_of_text.Goals as goal

pub returns-then-rest-gt-PLAN_LIMIT-clause-judged : goal.returns-then-rest-gt-PLAN_LIMIT-clause-judged
returns-then-rest-gt-PLAN_LIMIT-clause-judged c =
    inr (refl, too_long _ _ _ c.front_of-front.ensures (omega (arith, c.if-rest-gt-PLAN_LIMIT.true)))
