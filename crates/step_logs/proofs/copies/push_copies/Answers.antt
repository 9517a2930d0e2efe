use Rattle.step_logs.proofs.Lists.{copied_more}
use Rattle.step_logs.proofs.copies.push_copies.Goals as goal

pub loop-step-preserved : goal.loop-step-preserved
loop-step-preserved c =
    copied_more c.args.steps.now c.loop-step.step-index c.step-item.result c.args.copies.now.items c.loop-step.copies.items c.push_copy.new.steps.items
    c.loop-step-test.true c.step-item.is c.loop-step.invariant c.in_ok-push_copy.ensures.ok
