use Rattle.std.proofs.Common.{◌<◌, length, arith, below_more, ap, sym, ◌∙◌}
use Rattle.std.proofs.lemmas.Bool.{false≢true}
use Rattle.ttp_model.specs.Plans.{AreApart}
use Rattle.plan_check.proofs.processes.first_overlap_of.Goals as goal

pub returns-then-not-are_apart : goal.returns-then-not-are_apart
returns-then-not-are_apart c =
    let overlap = λ (apart : AreApart c.args.instance.now c.args.plan.now c.args.p c.loop-q.q).
    false≢true (sym c.if-not-are_apart.true ∙ c.are_apart.ensures.1 apart) in
    (omega (arith, c.loop-q.auto.q), omega (arith, c.loop-q-test.true, ap length c.processes-count.ensures.value), overlap, c.loop-q.invariant)

pub loop-q-preserved : goal.loop-q-preserved
loop-q-preserved c = λ k after below.
    let i = c.args.instance.now in
    let p = c.args.p in
    below_more (λ k. p < k → AreApart i c.args.plan.now p k) c.loop-q.q (λ k below after. c.loop-q.invariant k after below)
    (λ _. c.are_apart.ensures.0 c.if-not-are_apart.false) k below after

pub returns : goal.returns
returns c = λ q after inside. c.loop-q.invariant q after (omega (arith, inside, c.loop-q-test.false, ap length c.processes-count.ensures.value))
