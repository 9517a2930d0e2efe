use Rattle.std.proofs.Common.{rules, tests, refl}
use Rattle.std.proofs.lemmas.Iterator.Consumers.{nth_from_yields_List}
use Rattle.std.proofs.lemmas.Iterator.Splits.{YieldsList-from_slice_split}
use Rattle.line_text.proofs.TextLines.{line_found}
use Rattle.line_text.proofs.told_lines.numbered_line.Goals as goal

pub returns : goal.returns
returns c =
    let split = c.split.ensures in
    line_found c.args.text.now c.args.number c.saturating_sub-place.result c.nth.result _ c.unwrap_or.result c.unwrap_or.ensures refl (search rules)
    (nth_from_yields_List c.nth.result _ _ c.nth.ensures.ran
    (YieldsList-from_slice_split _ _ c.args.text.now split.rest split.done split.closure (λ x b q k. search (rules, tests))))
