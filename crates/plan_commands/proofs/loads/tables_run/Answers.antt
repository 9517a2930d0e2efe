use Rattle.plan_commands.proofs.Tellings.{never_of_instance}
use Rattle.plan_commands.specs.Periods.{AreUntold, IsLoadsOf}
use Rattle.plan_commands.proofs.Rounded.{refused_of_readers, told_of_readers, untold_rounds}
use Rattle.plan_commands.proofs.loads.tables_run.Goals as goal

pub returns-in-Ok-clause-answer : goal.returns-in-Ok-clause-answer
returns-in-Ok-clause-answer g c =
    told_of_readers (IsLoadsOf c.args.rounds) (AreUntold c.args.rounds) (λ instance plan v is. untold_rounds instance plan v is c.args.rounds)
    _ _ c.in-Ok.verified _ _ _ c.in-Ok.ensures.judged c.write_loads-end.ensures.answer

pub returns-in-Ok-clause-order : goal.returns-in-Ok-clause-order
returns-in-Ok-clause-order g c = never_of_instance _ _ c.write_loads-end.ensures.later

pub returns-in-Err-clause-answer : goal.returns-in-Err-clause-answer
returns-in-Err-clause-answer g c =
    refused_of_readers (IsLoadsOf c.args.rounds) (AreUntold c.args.rounds) _ _ _ c.in-Err.fault c.in-Err.ensures.judged
