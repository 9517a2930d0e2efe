use Rattle.std.proofs.Common.{sym, refl}
use Rattle.line_text.proofs.Digits.{number_takes}
use Rattle.plan_commands.proofs.AnswerLines.{no_number}
use Rattle.plan_commands.proofs.front.is_number.Goals as goal

pub returns-in-Number : goal.returns-in-Number
returns-in-Number c = (λ _. (let read = number_takes _ _ (sym c.in-Number.ensures) in (_, read.0, read.1)), λ _. refl)

pub returns-in_default : goal.returns-in_default
returns-in_default c = (λ is. absurd (cc), λ is. absurd (no_number _ _ c.number_word.ensures c.in_default.not-Number is))
