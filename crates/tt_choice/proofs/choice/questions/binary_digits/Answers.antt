use Rattle.std.proofs.Common.{arith}
use Rattle.tt_choice.proofs.Digits.{digits_by_zeros}
use Rattle.tt_choice.proofs.choice.questions.binary_digits.Goals as goal

pub returns-clause-value : goal.returns-clause-value
returns-clause-value c = digits_by_zeros c.args.n (omega arith)
