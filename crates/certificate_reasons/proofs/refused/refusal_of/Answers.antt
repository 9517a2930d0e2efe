-- A step that is refused leaves what is known.
use Rattle.std.proofs.Common.{◌≡◌, ◌∙◌, ap}
use Rattle.sought_plans.specs.Known.{Known}
use Rattle.tt_infer.specs.Facts.{Facts, after}
use Rattle.tt_infer.proofs.Determined.{fault-not_lawful}
use Rattle.certificate_reasons.proofs.refused.refusal_of.Goals as goal

unchanged : (f g : Facts) → g ≡ after f g.known → g.known ≡ f.known → g ≡ f
unchanged f g others is = others ∙ ap (λ (k : Known). after f k) is

pub unreachable-requires : goal.unreachable-requires
unreachable-requires c =
    let s = c.args.facts.now in
    fault-not_lawful s.instance s.choice s.goal s.known c.args.step.now c.apply.new.self.known c.requires.0 c.requires.1 c.in-Ok.ensures.step.0
    c.in-Ok.ensures.step.1

pub refusal_by-requires : goal.refusal_by-requires
refusal_by-requires c =
    let same = unchanged c.args.facts.now c.apply.new.self c.in-Err.ensures.others c.in-Err.ensures.step.1 in
    rw same c.in-Err.ensures.step.0

pub returns : goal.returns
returns c =
    let same = unchanged c.args.facts.now c.apply.new.self c.in-Err.ensures.others c.in-Err.ensures.step.1 in
    rw same at c.refusal_by.ensures
