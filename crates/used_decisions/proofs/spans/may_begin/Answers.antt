use Rattle.std.proofs.Common.{arith, refl, sym, ◌∙◌}
use Rattle.used_decisions.proofs.Rounds.{begins_there}
use Rattle.used_decisions.proofs.spans.may_begin.Goals as goal

pub returns-then-a-eq0 : goal.returns-then-a-eq0
returns-then-a-eq0 c = λ f known there from. refl

pub returns-then-has_least : goal.returns-then-has_least
returns-then-has_least c = λ f known there from. refl

pub returns : goal.returns
returns c = λ f known there from. c.begins_from.ensures there
    ∙ begins_there c.args.path.now c.args.given.now f known c.args.m there c.args.a (omega (arith, c.if-a-eq0.false)) from
    (sym c.has_least.ensures ∙ c.if-has_least.false)
