use Rattle.std.proofs.Common.{◌+◌, length, arith}
use Rattle.plan_sheets.proofs.Placing.{below-all, below-sorted}
use Rattle.evidence.proofs.model.schedules.processes_by_rising_starts.Goals as goal

pub returns-clause-rising : goal.returns-clause-rising
returns-clause-rising c =
    let i = c.args.instance.now in
    rw c.in_ok-order.ensures.order (λ k lt. below-sorted i c.args.plan.now c.args.node (length i.processes) k (k + 1) 0 (omega arith) lt)

pub returns-clause-all : goal.returns-clause-all
returns-clause-all c =
    let i = c.args.instance.now in
    rw c.in_ok-order.ensures.order (below-all i c.args.plan.now c.args.node (length i.processes))
