use Rattle.std.proofs.Common.{arith}
use Rattle.std.proofs.lemmas.List.{take_all}
use Rattle.plan_sheets.specs.Dispatch.{dispatch_text, node_text}
use Rattle.plan_sheets.proofs.Growing.{line_begins, line_starts, list_grows}
use Rattle.plan_sheets.proofs.dispatch.put_node.Goals as goal

pub put_dispatch-requires-clause-start : goal.put_dispatch-requires-clause-start
put_dispatch-requires-clause-start c = line_starts _ _ c.loop-p.invariant

pub loop-p-init : goal.loop-p-init
loop-p-init c = line_begins _ c.requires.start

pub loop-p-preserved : goal.loop-p-preserved
unfolding dispatch_text
loop-p-preserved c =
    list_grows _ _ _ (dispatch_text c.args.instance.now c.args.plan.now) c.as_slice-processes.result.now c.loop-p.p-index c.loop-p-test.true c.loop-p.invariant (rw c.dispatch_of-row.ensures.row at c.in_ok-put_dispatch.ensures)

pub returns : goal.returns
unfolding node_text
returns c =
    let all = rw (take_all c.loop-p.p-index c.as_slice-processes.result.now (omega arith)) at c.loop-p.invariant in
    rw (c.as_slice-processes.ensures.value, c.in_ok-order.ensures.order) at all
