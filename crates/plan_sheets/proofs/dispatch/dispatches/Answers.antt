use Rattle.std.proofs.Common.{◌≡◌, ap, arith, codes, length}
use Rattle.plan_sheets.specs.Dispatch.{dispatches_text, node_text}
use Rattle.plan_sheets.proofs.Growing.{head_begins, line_starts, range_grows}
use Rattle.plan_sheets.proofs.dispatch.dispatches.Goals as goal

pub put_node-requires-clause-start : goal.put_node-requires-clause-start
put_node-requires-clause-start c = line_starts _ _ c.loop-node.invariant

pub loop-node-init : goal.loop-node-init
loop-node-init c = head_begins _ _ c.in_ok-sheet.ensures

pub loop-node-preserved : goal.loop-node-preserved
loop-node-preserved c = range_grows _ _ (codes "node,process,start,end,release,deadline,slack\n") (node_text c.args.instance.now c.args.plan.now) c.loop-node.node c.loop-node.invariant c.in_ok-put_node.ensures

pub returns : goal.returns
unfolding dispatches_text
returns c =
    let all : c.loop-node.node ≡ length c.args.instance.now.nodes = omega (arith, ap length c.nodes-count.ensures.value) in
    let whole = rw all at c.loop-node.invariant in
    rw whole.text at c.into_text.ensures
