use Rattle.plan_commands.proofs.Tellings.{never_of_instance}
use Rattle.plan_commands.specs.Periods.{IsHeldText, IsShortPeriod}
use Rattle.plan_commands.proofs.Rounded.{refused_of_readers, short_period, told_of_readers}
use Rattle.plan_commands.proofs.period.period_run.Goals as goal

pub returns-in-Ok-clause-answer : goal.returns-in-Ok-clause-answer
returns-in-Ok-clause-answer g c =
    told_of_readers (IsHeldText c.args.period) (IsShortPeriod c.args.period) (λ instance plan v is. short_period instance plan v is c.args.period)
    _ _ c.in-Ok.verified _ _ _ c.in-Ok.ensures.judged c.write_period-end.ensures.answer

pub returns-in-Ok-clause-order : goal.returns-in-Ok-clause-order
returns-in-Ok-clause-order g c = never_of_instance _ _ c.write_period-end.ensures.later

pub returns-in-Err-clause-answer : goal.returns-in-Err-clause-answer
returns-in-Err-clause-answer g c =
    refused_of_readers (IsHeldText c.args.period) (IsShortPeriod c.args.period) _ _ _ c.in-Err.fault c.in-Err.ensures.judged
