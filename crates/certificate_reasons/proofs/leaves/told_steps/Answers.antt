-- The steps lead on, and each is told by what is known before and after it.
use Rattle.std.proofs.Common.{◌≡◌, ◌∙◌, ◌+◌, ◌<◌, ℕ, List, ap, arith, drop, length, min, refl, subst, take}
use Rattle.std.proofs.lemmas.List.{take_min}
use Rattle.ttp_model.specs.declared.step.Step.{Step}
use Rattle.sought_plans.specs.Known.{Known}
use Rattle.tt_infer.specs.Facts.{Facts, after}
use Rattle.tt_infer.specs.Leaves.{Lead}
use Rattle.tt_infer.specs.Table.{IsLawful}
use Rattle.tt_infer.proofs.Determined.{IsLawful-determined}
use Rattle.certificate_reasons.specs.declared.leaves.TheConstants.{MOST_STEPS}
use Rattle.certificate_reasons.specs.Leaves.{AreStepsTold}
use Rattle.certificate_reasons.specs.Steps.{IsToldStep}
use Rattle.certificate_reasons.proofs.Telling.{Lead-next, told_more}
use Rattle.certificate_reasons.proofs.leaves.told_steps.Goals as goal

pub loop-k-init : goal.loop-k-init
loop-k-init c = record { about = refl; told = rw c.new-told.ensures.items refl; rest = c.requires }

pub told_step-requires-clause-open : goal.told_step-requires-clause-open
told_step-requires-clause-open c =
    let s = c.args.facts.now in
    let inside : c.loop-k.k < length c.args.steps.now = omega (arith, c.loop-k-test.true, c.min-count.ensures) in
    let next = Lead-next s.instance s.choice s.goal c.loop-k.facts.known c.args.steps.now c.loop-k.k c.index-steps-k.result c.loop-k.invariant.rest.0 inside
    c.index-steps-k.is c.loop-k.invariant.rest.1 in
    next.0

pub told_step-requires-clause-lawful : goal.told_step-requires-clause-lawful
told_step-requires-clause-lawful c =
    let s = c.args.facts.now in
    let inside : c.loop-k.k < length c.args.steps.now = omega (arith, c.loop-k-test.true, c.min-count.ensures) in
    let next = Lead-next s.instance s.choice s.goal c.loop-k.facts.known c.args.steps.now c.loop-k.k c.index-steps-k.result c.loop-k.invariant.rest.0 inside
    c.index-steps-k.is c.loop-k.invariant.rest.1 in
    rw c.loop-k.invariant.about (next.1.0, next.1.1)

-- The step that comes next is lawful, since steps that close the choice lead on from there: with it one step more is told, and what is
-- known after it leads to the end by the others.
pub loop-k-preserved : goal.loop-k-preserved
loop-k-preserved c =
    let s = c.args.facts.now in
    let f = c.loop-k.facts.known in
    let g = c.told_step.new.facts.known in
    let steps = c.args.steps.now in
    let step = c.index-steps-k.result in
    let inside : c.loop-k.k < length c.args.steps.now = omega (arith, c.loop-k-test.true, c.min-count.ensures) in
    let next = Lead-next s.instance s.choice s.goal f steps c.loop-k.k step c.loop-k.invariant.rest.0 inside c.index-steps-k.is c.loop-k.invariant.rest.1 in
    let taken : IsLawful s.instance s.choice s.goal f step g = rw c.loop-k.invariant.about at c.in_ok-step.ensures.taken in
    let told : IsToldStep s.instance s.choice s.goal f g step c.in_ok-step.step = rw c.loop-k.invariant.about at c.in_ok-step.ensures.told in
    let same : next.1.0 ≡ g = IsLawful-determined s.instance s.choice s.goal f step next.1.0 g next.1.1 taken in
    record {
      about = c.in_ok-step.ensures.others ∙ ap (λ (t : Facts). after t g) c.loop-k.invariant.about;
      told =
          told_more s.instance s.choice s.goal s.known steps c.loop-k.k step f g c.loop-k.told.items c.push.new.self.items _ inside c.index-steps-k.is
          c.loop-k.invariant.told taken told c.in_ok-push.ensures.items;
      rest = (c.loop-k.invariant.rest.0, subst (λ (n : Known). Lead s.instance s.choice s.goal n (drop (c.loop-k.k + 1) steps) c.loop-k.invariant.rest.0) same next.1.2);
    }

pub returns : goal.returns
returns c =
    let s = c.args.facts.now in
    let all : c.loop-k.k ≡ min MOST_STEPS (length c.args.steps.now) = omega (arith, c.min-count.ensures) in
    let first : take c.loop-k.k c.args.steps.now ≡ take MOST_STEPS c.args.steps.now =
    ap (λ (n : ℕ). take n c.args.steps.now) all ∙ take_min MOST_STEPS c.args.steps.now in
    (c.loop-k.facts.known, subst (λ (steps : List Step). AreStepsTold s.instance s.choice s.goal s.known steps c.loop-k.facts.known c.loop-k.told.items) first c.loop-k.invariant.told)
