use Rattle.std.proofs.Common.{refl, ◌∙◌}
use Rattle.std.proofs.lemmas.List.{append-nil}
use Rattle.plan_sheets.specs.Lines.{cells_of, text_of}
use Rattle.plan_sheets.proofs.sheet.Sheet.new.Goals as goal

pub returns : goal.returns
unfolding cells_of text_of
returns c =
    let from = c.from_writer.ensures in
    record {
      tidy = record { setup = from.cfg ∙ c.new.ensures; fields = from.fields; wrote = from.wrote; partial = c.new-2.ensures.partial };
      text = rw (from.wtr, from.empty, c.in_ok-text.ensures.items, append-nil c.args.head.now) refl;
      cells = c.new-2.ensures.fields;
    }
