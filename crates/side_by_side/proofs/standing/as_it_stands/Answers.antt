use Rattle.std.proofs.Common.{◌≡◌, ◌≤◌, ap, arith, refl, sym, subst, ◌∙◌, length}
use Rattle.std.proofs.lemmas.Result.{IfOk-weaker}
use Rattle.ttp_model.specs.declared.step.Leaf.{Leaf}
use Rattle.sought_plans.specs.Known.{Known, first_facts}
use Rattle.tt_infer.specs.Facts.{Facts, after}
use Rattle.tree_check.proofs.LeafSteps.{Lead-more}
use Rattle.side_by_side.specs.Standing.{StandsAs}
use Rattle.side_by_side.specs.Copies.{MayBeCut}
use Rattle.side_by_side.proofs.Along.{along_first}
use Rattle.side_by_side.proofs.StepByStep.{goes_on, may_be_cut, stands_whole}
use Rattle.side_by_side.proofs.standing.as_it_stands.Goals as goal

pub loop-place-init : goal.loop-place-init
loop-place-init c =
    let facts = c.args.facts.now in
    let leaf = c.args.leaf.now in
    let known : facts.known ≡ first_facts facts.instance facts.choice = ap (λ (f : Facts). f.known) c.requires.first in
    record {
      others = refl;
      lead = known;
      along =
          rw (known, c.as_slice-steps.ensures.value)
          (along_first facts.instance facts.choice leaf c.instance-instance.ensures.inference.choice c.requires.around);
    }

pub cut_short-requires : goal.cut_short-requires
cut_short-requires c =
    let facts = c.args.facts.now in
    let i = facts.instance in
    let ch = facts.choice in
    let leaf = c.args.leaf.now in
    let are = c.instance-instance.ensures.inference in
    let f = c.loop-place.facts.known in
    let made : Known → Facts = λ k. record { instance = i; choice = ch; goal = leaf.goal; known = k } in
    let about : c.loop-place.facts ≡ made f = c.loop-place.invariant.others ∙ ap (λ (s : Facts). after s f) c.requires.first in
    let refused = rw about at c.in-Err.ensures.step in
    let same : c.apply.new.self ≡ made f =
    c.in-Err.ensures.others ∙ (ap (λ (s : Facts). after s c.apply.new.self.known) about ∙ ap made refused.1) in
    subst (λ (s : Facts). MayBeCut s leaf c.loop-place.place) (sym same)
    (may_be_cut i ch leaf are.instance are.choice c.as_slice-steps.result.now c.as_slice-steps.ensures.value c.loop-place.place
    c.index-steps-place.result f c.loop-place-test.true c.index-steps-place.is c.loop-place.invariant.along c.in-Err.field-0
    c.loop-place.invariant.lead refused.0)

pub loop-place-preserved : goal.loop-place-preserved
loop-place-preserved c =
    let facts = c.args.facts.now in
    let i = facts.instance in
    let ch = facts.choice in
    let leaf = c.args.leaf.now in
    let are = c.instance-instance.ensures.inference in
    let f = c.loop-place.facts.known in
    let known = c.apply.new.self.known in
    let steps = c.as_slice-steps.result.now in
    let made : Known → Facts = λ k. record { instance = i; choice = ch; goal = leaf.goal; known = k } in
    let about : c.loop-place.facts ≡ made f = c.loop-place.invariant.others ∙ ap (λ (s : Facts). after s f) c.requires.first in
    let taken = rw about at c.in-Ok.ensures.step in
    record {
      others = c.in-Ok.ensures.others ∙ ap (λ (s : Facts). after s known) c.loop-place.invariant.others;
      lead =
          Lead-more i ch leaf.goal steps c.loop-place.place c.index-steps-place.result f known c.loop-place-test.true c.index-steps-place.is
          c.loop-place.invariant.lead taken.0 taken.1;
      along =
          goes_on i ch leaf are.instance are.choice steps c.as_slice-steps.ensures.value c.loop-place.place c.index-steps-place.result f
          c.loop-place-test.true c.index-steps-place.is c.loop-place.invariant.along known taken.1;
    }

pub returns-clause-stands : goal.returns-clause-stands
returns-clause-stands c =
    let facts = c.args.facts.now in
    let i = facts.instance in
    let ch = facts.choice in
    let leaf = c.args.leaf.now in
    let are = c.instance-instance.ensures.inference in
    let steps = c.as_slice-steps.result.now in
    let past : length steps ≤ c.loop-place.place = omega (arith, c.loop-place-test.false) in
    IfOk-weaker c.copy_of_leaf.result (λ (here : Leaf). here ≡ leaf) (StandsAs i ch leaf)
    (λ here same. stands_whole i ch leaf are.instance are.choice steps c.as_slice-steps.ensures.value c.loop-place.place c.loop-place.facts.known here past
    c.loop-place.invariant.lead c.loop-place.invariant.along same) c.copy_of_leaf.ensures
