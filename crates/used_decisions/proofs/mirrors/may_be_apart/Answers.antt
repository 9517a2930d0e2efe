use Rattle.std.proofs.Common.{inl, inr, refl}
use Rattle.std.proofs.lemmas.Bool.{both_ways}
use Rattle.used_decisions.proofs.mirrors.may_be_apart.Goals as goal

pub returns-then-may_go_first : goal.returns-then-may_go_first
returns-then-may_go_first c = λ f known first second apart. refl

pub returns : goal.returns
returns c = λ f known first second apart. elim apart [
  | inl before ↦ absurd (both_ways _ c.if-may_go_first.false (c.may_go_first.ensures f known first second before))
  | inr behind ↦ c.may_go_first-2.ensures f known second first behind
]
