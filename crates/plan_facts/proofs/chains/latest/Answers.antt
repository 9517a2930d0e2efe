use Rattle.std.proofs.Common.{arith, below_more}
use Rattle.plan_facts.proofs.Walks.{max_reached}
use Rattle.plan_facts.proofs.chains.latest.Goals as goal

pub loop-end-preserved : goal.loop-end-preserved
loop-end-preserved c = rw c.max-latest.ensures (record {
  reached = max_reached c.args.ends.now c.loop-end.end-index c.loop-end.latest c.loop-end-test.true c.loop-end.invariant.reached;
  greatest = below_more _ _ (λ k h. omega (arith, c.loop-end.invariant.greatest k h)) (omega arith);
})
