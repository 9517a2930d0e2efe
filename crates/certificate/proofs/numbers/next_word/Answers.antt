use Rattle.std.proofs.Common.{sym}
use Rattle.certificate.proofs.WordLists.{last_word, word_and_more}
use Rattle.certificate.proofs.numbers.next_word.Goals as goal

pub returns-in-None-clause-words : goal.returns-in-None-clause-words
returns-in-None-clause-words c = rw c.number_word.ensures (last_word c.args.text.now (sym c.in-None.ensures.value))

pub returns-in-Some-clause-words : goal.returns-in-Some-clause-words
returns-in-Some-clause-words c =
    rw c.number_word-in-Some.ensures (word_and_more c.args.text.now c.in-Some.word.now c.in-Some.more.now (sym c.in-Some.ensures.value))
