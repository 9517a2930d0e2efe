use Rattle.std.proofs.Common.{sym}
use Rattle.line_text.proofs.Cuts.{cut_words, cut_last, cut_shorter}
use Rattle.plan_reasons.proofs.orders.first_word.Goals as goal

pub returns-in-None-clause-words : goal.returns-in-None-clause-words
returns-in-None-clause-words c = cut_last 32 c.args.text.now (sym c.in-None.ensures.value)

pub returns-in-Some-clause-words : goal.returns-in-Some-clause-words
returns-in-Some-clause-words c = cut_words 32 c.args.text.now c.in-Some.word.now c.in-Some.more.now (sym c.in-Some.ensures.value)

pub returns-in-Some-clause-shorter : goal.returns-in-Some-clause-shorter
returns-in-Some-clause-shorter c = cut_shorter 32 c.args.text.now c.in-Some.word.now c.in-Some.more.now (sym c.in-Some.ensures.value)
