use Rattle.plan_sheets.specs.Lines.{text_of}
use Rattle.plan_sheets.proofs.sheet.Sheet.into_text.Goals as goal

pub returns-in-Ok : goal.returns-in-Ok
unfolding text_of
returns-in-Ok c = c.in-Ok.ensures.ok
