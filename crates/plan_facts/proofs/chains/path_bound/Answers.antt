use Rattle.std.proofs.Common.{◌<◌, length, arith}
use Rattle.plan_facts.proofs.Walks.{chain_small, bound_found}
use Rattle.plan_facts.proofs.chains.path_bound.Goals as goal

pub overflow_cast-result : goal.overflow_cast-result
overflow_cast-result c =
    let reached = rw c.as_slice.ensures.value at c.latest.ensures.reached in
    let are = c.in_ok-ends.ensures in
    let inside : reached.0 < length c.args.instance.now.processes = omega (arith, reached.1, are.all) in
    omega (arith, reached.2, chain_small c.args.instance.now c.nodes-nodes.ensures.instance reached.0 _ (are.each reached.0 inside).reached)

pub returns : goal.returns
returns c =
    let reached = rw c.as_slice.ensures.value at c.latest.ensures.reached in
    let greatest = rw c.as_slice.ensures.value at c.latest.ensures.greatest in
    bound_found c.args.instance.now c.nodes-nodes.ensures.instance c.in_ok-ends.ends.items reached.0 c.latest.result
    c.in_ok-ends.ensures reached.1 reached.2 greatest
