use Rattle.command_streams.proofs.Outcomes.{ended_later, keeps, written_outcome}
use Rattle.schedule_exports.specs.Exports.{IsExportText}
use Rattle.plan_commands.specs.Exported.{IsUnexported}
use Rattle.plan_commands.proofs.exports.write_export.Goals as goal

pub returns-in-Ok-clause-answer : goal.returns-in-Ok-clause-answer
returns-in-Ok-clause-answer g c =
    let v = c.args.sources.now.verified in
    written_outcome (IsExportText v.instance v.plan c.args.export) (IsUnexported c.args.export v.instance v.plan) _
    c.in-Ok.ensures.text _ _ _ (rw c.as_bytes.ensures.value at c.end_with.ensures)

pub returns-in-Ok-clause-later : goal.returns-in-Ok-clause-later
returns-in-Ok-clause-later g c = ended_later _ _ _ _ _ c.end_with.ensures

pub returns-in-Err-NoSuchNode-clause-answer : goal.returns-in-Err-NoSuchNode-clause-answer
returns-in-Err-NoSuchNode-clause-answer g c = (rw c.in-Err-NoSuchNode.field-0-is at c.in-Err-NoSuchNode.ensures.err, keeps _)

pub returns-in-Err-TooManySlots-clause-answer : goal.returns-in-Err-TooManySlots-clause-answer
returns-in-Err-TooManySlots-clause-answer g c = (rw c.in-Err-TooManySlots.field-0-is at c.in-Err-TooManySlots.ensures.err, keeps _)

pub returns-in-Err-Memory-clause-answer : goal.returns-in-Err-Memory-clause-answer
returns-in-Err-Memory-clause-answer g c = (tt, keeps _)
