use Rattle.std.proofs.Common.{refl}
use Rattle.std.proofs.lemmas.Bool.{both_ways}
use Rattle.used_decisions.proofs.mirrors.rounds_count.Goals as goal

pub returns-then-may_be_apart : goal.returns-then-may_be_apart
returns-then-may_be_apart c = λ f known first second apart. refl

pub returns : goal.returns
returns c = λ f known first second apart. absurd (both_ways _ c.if-may_be_apart.false (c.may_be_apart.ensures f known first second apart))
