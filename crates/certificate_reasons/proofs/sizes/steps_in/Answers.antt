use Rattle.std.proofs.Common.{arith}
use Rattle.certificate_reasons.proofs.StepCounts.{told_more}
use Rattle.certificate_reasons.proofs.sizes.steps_in.Goals as goal

pub loop-node-preserved : goal.loop-node-preserved
loop-node-preserved c =
    let more = told_more c.args.nodes.now c.loop-node.node-index c.node-item.result c.loop-node-test.true c.node-item.is in
    omega (arith, more, c.loop-node.invariant, c.step_count.ensures, c.saturating_add-count.ensures)
