use Rattle.std.proofs.Common.{length, arith, below_more, ap, sym, ◌∙◌}
use Rattle.std.proofs.lemmas.Bool.{false≢true}
use Rattle.ttp_model.specs.Plans.{KeepsLink}
use Rattle.plan_check.proofs.processes.first_broken_link.Goals as goal

pub returns-then-not-ends_before : goal.returns-then-not-ends_before
returns-then-not-ends_before c =
    let keeps = rw c.link_at-link.ensures.value at c.ends_before.ensures in
    record {
      within = omega (arith, c.loop-l-test.true, ap length c.links-l-end.ensures.value);
      fails = λ kept. false≢true (sym c.if-not-ends_before.true ∙ keeps.1 kept);
      holds_before = c.loop-l.invariant;
    }

pub loop-l-preserved : goal.loop-l-preserved
loop-l-preserved c =
    let keeps = rw c.link_at-link.ensures.value at c.ends_before.ensures in
    below_more (KeepsLink c.args.instance.now c.args.plan.now) c.loop-l.l c.loop-l.invariant (keeps.0 c.if-not-ends_before.false)

pub returns : goal.returns
returns c = λ l inside. c.loop-l.invariant l (omega (arith, inside, c.loop-l-test.false, ap length c.links-l-end.ensures.value))
