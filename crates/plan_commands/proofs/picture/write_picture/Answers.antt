use Rattle.std.proofs.Common.{sym}
use Rattle.command_streams.proofs.Outcomes.{ended_later, keeps, written_outcome}
use Rattle.plan_commands.specs.Drawings.{IsPictureText, IsUndrawn}
use Rattle.plan_commands.proofs.picture.write_picture.Goals as goal

pub returns-in-Some-clause-answer : goal.returns-in-Some-clause-answer
returns-in-Some-clause-answer g c = (sym c.in-Some.ensures, keeps _)

pub returns-in-Ok-clause-answer : goal.returns-in-Ok-clause-answer
returns-in-Ok-clause-answer g c =
    written_outcome (IsPictureText c.args.width c.args.shown c.args.instance.now c.args.plan.now) (IsUndrawn c.args.shown c.args.instance.now c.args.plan.now) _
    (record { few = sym c.in-None.ensures; is = c.in-Ok.ensures }) _ _ _ (rw c.as_bytes.ensures.value at c.end_with.ensures)

pub returns-in-Ok-clause-later : goal.returns-in-Ok-clause-later
returns-in-Ok-clause-later g c = ended_later _ _ _ _ _ c.end_with.ensures

pub returns-in-Err-clause-answer : goal.returns-in-Err-clause-answer
returns-in-Err-clause-answer g c = (tt, keeps _)
