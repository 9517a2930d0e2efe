use Rattle.std.proofs.Common.{arith}
use Rattle.plan_questions.proofs.Bounds.{low_chains, low_end, low_small}
use Rattle.plan_questions.proofs.limits.chains.longest_to.Goals as goal

pub overflow_cast-result : goal.overflow_cast-result
overflow_cast-result c =
    let is = rw c.as_slice.ensures.value at c.greatest_of.ensures in
    omega (arith, is, low_small c.args.instance.now c.args.processes.now c.requires c.nodes-nodes.ensures.instance c.in_ok-ends.ends.items c.in_ok-ends.ensures)

pub returns-clause-lower : goal.returns-clause-lower
returns-clause-lower c =
    let is = rw c.as_slice.ensures.value at c.greatest_of.ensures in
    rw is (low_end c.args.instance.now c.args.processes.now c.requires c.nodes-nodes.ensures.instance c.in_ok-ends.ends.items c.in_ok-ends.ensures)

pub returns-clause-chains : goal.returns-clause-chains
returns-clause-chains c =
    let is = rw c.as_slice.ensures.value at c.greatest_of.ensures in
    rw is (low_chains c.args.instance.now c.args.processes.now c.requires c.nodes-nodes.ensures.instance c.in_ok-ends.ends.items c.in_ok-ends.ensures)
