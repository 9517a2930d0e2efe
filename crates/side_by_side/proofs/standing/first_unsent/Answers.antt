use Rattle.std.proofs.Common.{◌<◌, arith, below_more, length, ap, ◌∙◌}
use Rattle.ttp_model.specs.Instance.{Instance}
use Rattle.sought_plans.specs.Known.{lo_of, top_of}
use Rattle.side_by_side.proofs.standing.first_unsent.Goals as goal

pub returns-then-top-lo-clause-some : goal.returns-then-top-lo-clause-some
returns-then-top-lo-clause-some c =
    let count = ap length c.messages.ensures.value ∙ ap (λ (i : Instance). length i.messages) c.instance.ensures.value in
    record {
      message = omega (arith, count, c.loop-m-test.true);
      none_left = omega (arith, c.if-top-lo.true, c.top.ensures, c.lo.ensures);
      first = c.loop-m.invariant;
    }

pub loop-m-preserved : goal.loop-m-preserved
loop-m-preserved c =
    let known = c.args.facts.now.known in
    below_more (λ m. lo_of known m < top_of known m) c.loop-m.m c.loop-m.invariant (omega (arith, c.if-top-lo.false, c.top.ensures, c.lo.ensures))

pub returns-clause-none : goal.returns-clause-none
returns-clause-none c = λ m inside.
    let count = ap length c.messages.ensures.value ∙ ap (λ (i : Instance). length i.messages) c.instance.ensures.value in
    c.loop-m.invariant m (omega (arith, inside, count))
