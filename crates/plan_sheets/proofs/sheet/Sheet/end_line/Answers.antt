use Rattle.std.proofs.Common.{◌≢◌, ◌∙◌}
use Rattle.csv.specs.declared.writer.QuoteStyle.TheVariants as style
use Rattle.plan_sheets.specs.Lines.{cells_of, line_of, text_of}
use Rattle.plan_sheets.proofs.sheet.Sheet.end_line.Goals as goal

pub returns : goal.returns
unfolding cells_of line_of text_of
returns c =
    let tidy = c.requires in
    let plain : c.args.self.now.writer.cfg.style ≢ style.NonNumeric = rw tidy.setup (λ e. cc e) in
    let gains = c.in-Ok.ensures.bytes tidy.fields tidy.wrote plain in
    record {
      tidy = record { setup = c.in-Ok.ensures.setup ∙ tidy.setup; fields = c.in-Ok.ensures.ended; wrote = c.in-Ok.ensures.clean; partial = c.clear.ensures.partial };
      text = rw tidy.setup at gains;
      cells = c.clear.ensures.fields;
    }
