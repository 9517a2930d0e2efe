use Rattle.std.proofs.Common.{rules, tests, ◌≡◌, ◌-◌, ℕ, List, take}
use Rattle.std.proofs.lemmas.Iterator.{YieldsList-from_take}
use Rattle.std.proofs.lemmas.Iterator.Consumers.{fold_from_yields_List}
use Rattle.std.proofs.lemmas.Iterator.Splits.{YieldsList-from_slice_split}
use Rattle.certificate_reasons.specs.Places.{steps_due, due_behind}
use Rattle.line_text.specs.TextLines.{text_lines}
use Rattle.certificate_reasons.proofs.places.steps_due.Goals as goal

-- the lines before the one of a number
due_before : (text : List ℕ) (number before result : ℕ) → before ≡ number - 1 → result ≡ steps_due (take before (text_lines text))
    → result ≡ steps_due (take (number - 1) (text_lines text))
due_before text number before result is due = rw is at due

pub returns : goal.returns
returns c =
    let before : c.saturating_sub-before.result ≡ c.args.number - 1 = search rules in
    due_before c.args.text.now c.args.number c.saturating_sub-before.result c.fold.result before
    (fold_from_yields_List _ due_behind 0 c.fold.result c.fold.ensures.ran
    (YieldsList-from_take c.saturating_sub-before.result
    (YieldsList-from_slice_split _ _ c.args.text.now (cc) (cc) (cc) (λ x b q k. search (rules, tests))) c.take.ensures.count)
    (λ due line b q k. search (rules, tests)))
