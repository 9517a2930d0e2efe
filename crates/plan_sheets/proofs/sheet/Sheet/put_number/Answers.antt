use Rattle.std.proofs.Common.{◌≡◌, decimal, refl}
use Rattle.plan_sheets.specs.Lines.{cells_of, text_of}
use Rattle.plan_sheets.proofs.sheet.Sheet.put_number.Goals as goal

pub returns : goal.returns
unfolding cells_of text_of
returns c =
    let digits : c.as_slice.result.now ≡ decimal c.args.number = rw (c.as_slice.ensures.value, c.in_ok-push_number.ensures.ok, c.clear.ensures.items) refl in
    record {
      tidy = record { setup = c.requires.setup; fields = c.requires.fields; wrote = c.requires.wrote; partial = c.in_ok-push_field.ensures.partial };
      text = refl;
      cells = rw (c.requires.partial, digits) at c.in_ok-push_field.ensures.fields;
    }
