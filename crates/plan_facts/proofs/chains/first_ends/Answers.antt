use Rattle.std.proofs.Common.{length, arith, ap}
use Rattle.plan_facts.proofs.Walks.{ends_first}
use Rattle.plan_facts.proofs.chains.first_ends.Goals as goal

pub returns : goal.returns
returns c =
    let all = ap length c.processes-p-end.ensures.value in
    ends_first c.args.instance.now c.processes-p-end.ensures.instance c.loop-p.ends.items
    (omega (arith, c.loop-p.invariant.all, all, c.loop-p-test.false, c.loop-p.auto.p-end))
    (λ p inside. c.loop-p.invariant.each p (omega (arith, inside, all, c.loop-p-test.false)))
