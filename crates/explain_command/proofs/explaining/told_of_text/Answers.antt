use Rattle.std.proofs.Common.{arith}
use Rattle.plan_commands.proofs.Prints.{too_long}
use Rattle.explain_command.proofs.explaining.told_of_text.Goals as goal

pub returns-then-rest-gt-PLAN_LIMIT-clause-err : goal.returns-then-rest-gt-PLAN_LIMIT-clause-err
returns-then-rest-gt-PLAN_LIMIT-clause-err c = too_long _ _ _ c.front_of-front.ensures (omega (arith, c.if-rest-gt-PLAN_LIMIT.true))
