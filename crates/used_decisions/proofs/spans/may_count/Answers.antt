use Rattle.std.proofs.lemmas.Bool.{both_ways}
use Rattle.used_decisions.proofs.spans.may_count.Goals as goal

pub returns-then-may_end : goal.returns-then-may_end
returns-then-may_end c = λ f known there within. c.may_begin.ensures f known there within.from

pub returns : goal.returns
returns c = λ f known there within. absurd (both_ways _ c.if-may_end.false (c.may_end.ensures f known there within.before))
