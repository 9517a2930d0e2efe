use Rattle.std.proofs.Common.{◌∙◌, ap, sym}
use Rattle.line_text.specs.Numbers.{number_word}
use Rattle.line_text.proofs.Digits.{number_again, number_takes}
use Rattle.plan_commands.proofs.losses.number_in.Goals as goal

pub returns-in-Number-clause-some : goal.returns-in-Number-clause-some
returns-in-Number-clause-some c = number_takes _ _ (sym c.in-Number.ensures)

pub returns-in-Malformed-clause-only : goal.returns-in-Malformed-clause-only
returns-in-Malformed-clause-only c = λ n is fits. let no = c.in-Malformed.ensures ∙ ap number_word is ∙ number_again n fits in absurd (cc)

pub returns-in-TooLarge-clause-only : goal.returns-in-TooLarge-clause-only
returns-in-TooLarge-clause-only c = λ n is fits. let no = c.in-TooLarge.ensures ∙ ap number_word is ∙ number_again n fits in absurd (cc)
