use Rattle.std.proofs.Common.{arith}
use Rattle.std.proofs.lemmas.List.{take_all}
use Rattle.plan_changes.specs.Dispatch.{dispatch_lines}
use Rattle.plan_changes.proofs.dispatch.dispatch_lines.Goals as goal

pub returns : goal.returns
unfolding dispatch_lines
returns c =
    let order = rw (c.instance.ensures.value, c.plan.ensures.value) at c.in_ok-order.ensures.order in
    let all = rw (take_all c.loop-p.p-index c.as_slice-processes.result.now (omega arith)) at c.loop-p.invariant in
    rw (c.as_slice-processes.ensures.value, order) at all
