use Rattle.std.proofs.lemmas.Bool.{both_ways}
use Rattle.used_decisions.proofs.spans.may_count_half.Goals as goal

pub returns-then-may_count : goal.returns-then-may_count
returns-then-may_count c = λ f known there some counts within. c.may_count_on.ensures there some counts

pub returns : goal.returns
returns c = λ f known there some counts within. absurd (both_ways _ c.if-may_count.false (c.may_count.ensures f known there within))
