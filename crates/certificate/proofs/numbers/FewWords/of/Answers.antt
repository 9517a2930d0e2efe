use Rattle.std.proofs.Common.{sym, ◌∙◌}
use Rattle.certificate.proofs.WordLists.{more_than_four}
use Rattle.certificate.proofs.numbers.FewWords.of.Goals as goal

pub returns-then-is_some : goal.returns-then-is_some
returns-then-is_some c =
    more_than_four c.args.text.now c.next_word-a.result.0 c.next_word-b.result.0 c.next_word-c.result.0 c.next_word-d.result.0 c.next_word-a.result.1
    c.next_word-b.result.1 c.next_word-c.result.1 c.next_word-d.result.1 c.in-Some.text c.in-Some-more.text c.in-Some-more-2.text c.next_word-a.ensures.words
    c.in-Some.is c.next_word-b.ensures.words c.in-Some-more.is c.next_word-c.ensures.words c.in-Some-more-2.is c.next_word-d.ensures.words
    (sym c.is_some.ensures ∙ c.if-is_some.true)
