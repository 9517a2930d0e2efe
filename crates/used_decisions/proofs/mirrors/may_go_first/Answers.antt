use Rattle.std.proofs.Common.{arith, refl, sym, ◌∙◌}
use Rattle.used_decisions.proofs.Rounds.{first_said}
use Rattle.used_decisions.proofs.mirrors.may_go_first.Goals as goal

pub returns-then-has_least : goal.returns-then-has_least
returns-then-has_least c = λ f known first second before. refl

pub returns : goal.returns
returns c = λ f known first second before.
    let said = first_said c.args.path.now c.args.given.now f known c.args.m second c.args.k (sym c.has_least.ensures ∙ c.if-has_least.false) before in
    c.may_end.ensures f known first (omega (arith, said, c.first_round.ensures second))
