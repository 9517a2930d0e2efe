use Rattle.std.proofs.Common.{◌+◌, arith, ap, ◌∙◌}
use Rattle.tt_infer.specs.Facts.{Facts, after}
use Rattle.tree_check.proofs.LeafSteps.{Lead-more, refused_at, told_on}
use Rattle.tree_check.proofs.leaf.judge_steps.Goals as goal

pub loop-place-preserved : goal.loop-place-preserved
loop-place-preserved c =
    let first = c.args.facts.now in
    let known = c.apply.new.self.known in
    let taken = rw c.loop-place.invariant.about at c.in-Ok.ensures.step in
    record {
      about = c.in-Ok.ensures.others ∙ ap (λ (s : Facts). after s known) c.loop-place.invariant.about;
      lead =
          Lead-more first.instance first.choice first.goal c.args.steps.now c.loop-place.place c.index-steps-place.result
          c.loop-place.facts.known known c.loop-place-test.true c.index-steps-place.is c.loop-place.invariant.lead taken.0 taken.1;
    }

pub returns-in-Err-clause-err : goal.returns-in-Err-clause-err
returns-in-Err-clause-err c = λ low above line is.
    let first = c.args.facts.now in
    let place = c.loop-place.place in
    let refused = rw c.loop-place.invariant.about at c.in-Err.ensures.step in (
      line + (1 + place),
      c.saturating_add-line.ensures ∙ told_on c.args.line line (1 + place) is,
      (
        above,
        (
          place,
          omega arith,
          refused_at first.instance first.choice first.goal c.args.steps.now place c.index-steps-place.result
              c.loop-place.facts.known c.in-Err.field-0 c.loop-place-test.true c.index-steps-place.is c.loop-place.invariant.lead refused.0,
        ),
      ),
    )
