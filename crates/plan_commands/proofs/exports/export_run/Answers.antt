use Rattle.plan_commands.proofs.Exporting.{exported_of_readers, unexported}
use Rattle.plan_commands.proofs.Tellings.{never_of_instance}
use Rattle.plan_commands.proofs.exports.export_run.Goals as goal

pub returns-in-Ok-clause-answer : goal.returns-in-Ok-clause-answer
returns-in-Ok-clause-answer g c =
    exported_of_readers c.args.export _ _ c.in-Ok.sources.verified _ _ _ c.in-Ok.ensures.judged c.write_export-end.ensures.answer

pub returns-in-Ok-clause-order : goal.returns-in-Ok-clause-order
returns-in-Ok-clause-order g c = never_of_instance _ _ c.write_export-end.ensures.later

pub returns-in-Err-clause-answer : goal.returns-in-Err-clause-answer
returns-in-Err-clause-answer g c = unexported c.args.export _ _ _ c.in-Err.fault c.in-Err.ensures.judged
