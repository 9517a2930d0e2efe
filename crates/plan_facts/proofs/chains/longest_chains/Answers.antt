use Rattle.std.proofs.Common.{◌+◌, length, arith, ap}
use Rattle.plan_facts.proofs.Walks.{longest_found}
use Rattle.plan_facts.proofs.chains.longest_chains.Goals as goal

pub loop-round-preserved : goal.loop-round-preserved
loop-round-preserved c = c.follow.ensures (c.loop-round.round + 1) (omega arith) c.loop-round.invariant

pub returns : goal.returns
returns c =
    longest_found c.args.instance.now c.processes-count.ensures.instance c.loop-round.ends.items (c.loop-round.round + 1)
    (omega (arith, ap length c.processes-count.ensures.value, c.loop-round-test.false)) c.loop-round.invariant
