-- The steps lead on.
use Rattle.std.proofs.Common.{◌≡◌, ◌∙◌, ◌+◌, List, ap, arith, drop, refl, subst}
use Rattle.std.proofs.lemmas.List.{take_all}
use Rattle.ttp_model.specs.declared.step.Step.{Step}
use Rattle.sought_plans.specs.Known.{Known}
use Rattle.tt_infer.specs.Facts.{Facts, after}
use Rattle.tt_infer.specs.Leaves.{Lead}
use Rattle.tt_infer.proofs.Determined.{IsLawful-determined, fault-not_lawful}
use Rattle.certificate_reasons.proofs.Telling.{Lead-more, Lead-next}
use Rattle.certificate_reasons.proofs.refused.take_all.Goals as goal

pub loop-k-init : goal.loop-k-init
loop-k-init c = record { about = refl; lead = refl; rest = c.requires }

pub unreachable-requires : goal.unreachable-requires
unreachable-requires c =
    let s = c.args.facts.now in
    let f = c.loop-k.facts.known in
    let next = Lead-next s.instance s.choice s.goal f c.args.steps.now c.loop-k.k c.index-steps-k.result c.loop-k.invariant.rest.0 c.loop-k-test.true
    c.index-steps-k.is c.loop-k.invariant.rest.1 in
    let refused = rw c.loop-k.invariant.about at c.in-Err.ensures.step in
    fault-not_lawful s.instance s.choice s.goal f c.index-steps-k.result next.1.0 c.in-Err.field-0 refused.0 next.0 next.1.1

pub loop-k-preserved : goal.loop-k-preserved
loop-k-preserved c =
    let s = c.args.facts.now in
    let f = c.loop-k.facts.known in
    let g = c.apply.new.self.known in
    let steps = c.args.steps.now in
    let step = c.index-steps-k.result in
    let next = Lead-next s.instance s.choice s.goal f steps c.loop-k.k step c.loop-k.invariant.rest.0 c.loop-k-test.true c.index-steps-k.is
    c.loop-k.invariant.rest.1 in
    let taken = rw c.loop-k.invariant.about at c.in-Ok.ensures.step in
    let same : next.1.0 ≡ g = IsLawful-determined s.instance s.choice s.goal f step next.1.0 g next.1.1 taken.1 in
    record {
      about = c.in-Ok.ensures.others ∙ ap (λ (t : Facts). after t g) c.loop-k.invariant.about;
      lead = Lead-more s.instance s.choice s.goal s.known steps c.loop-k.k step f g c.loop-k-test.true c.index-steps-k.is c.loop-k.invariant.lead taken.0 taken.1;
      rest = (c.loop-k.invariant.rest.0, subst (λ (n : Known). Lead s.instance s.choice s.goal n (drop (c.loop-k.k + 1) steps) c.loop-k.invariant.rest.0) same next.1.2);
    }

pub returns-clause-lead : goal.returns-clause-lead
returns-clause-lead c =
    let s = c.args.facts.now in
    let whole = take_all c.loop-k.k c.args.steps.now (omega (arith, c.loop-k-test.false)) in
    subst (λ (steps : List Step). Lead s.instance s.choice s.goal s.known steps c.loop-k.facts.known) whole c.loop-k.invariant.lead
