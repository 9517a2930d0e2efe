use Rattle.std.proofs.Common.{arith}
use Rattle.instance_variants.proofs.LongerRuns.{slack_small}
use Rattle.instance_variants.proofs.margins.slack_in_ticks.Goals as goal

pub overflow_cast-result : goal.overflow_cast-result
overflow_cast-result c =
    let small = slack_small c.args.instance.now c.args.plan.now c.args.p c.nodes-nodes.ensures.instance c.requires.inside in
    omega (arith, small, c.slack_of.ensures)

pub returns-clause-small : goal.returns-clause-small
returns-clause-small c =
    let small = slack_small c.args.instance.now c.args.plan.now c.args.p c.nodes-nodes.ensures.instance c.requires.inside in
    omega (arith, small, c.slack_of.ensures)
