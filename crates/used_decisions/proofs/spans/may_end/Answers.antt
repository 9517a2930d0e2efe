use Rattle.std.proofs.Common.{refl, sym, ◌∙◌}
use Rattle.used_decisions.proofs.Rounds.{horizon_within}
use Rattle.used_decisions.proofs.spans.may_end.Goals as goal

pub returns-then-ends_before : goal.returns-then-ends_before
returns-then-ends_before c = λ f known there until. refl

pub returns-then-has_greatest : goal.returns-then-has_greatest
returns-then-has_greatest c = λ f known there until. refl

pub returns : goal.returns
returns c = λ f known there until. rw (c.cluster.ensures.value, c.instance.ensures)
    (horizon_within c.args.path.now c.args.given.now f known c.args.m there c.args.b until
    (sym (c.ends_before.ensures there) ∙ c.if-ends_before.false) (sym c.has_greatest.ensures ∙ c.if-has_greatest.false))
