use Rattle.std.proofs.Common.{refl}
use Rattle.plan_sheets.specs.Lines.{cells_of, text_of}
use Rattle.plan_sheets.proofs.sheet.Sheet.put.Goals as goal

pub returns : goal.returns
unfolding cells_of text_of
returns c = record {
  tidy = record { setup = c.requires.setup; fields = c.requires.fields; wrote = c.requires.wrote; partial = c.in_ok-push_field.ensures.partial };
  text = refl;
  cells = rw c.requires.partial at c.in_ok-push_field.ensures.fields;
}
