use Rattle.std.proofs.Common.{◌≡◌, ap, arith, length}
use Rattle.plan_sheets.specs.Rows.{node_text, nodes_text}
use Rattle.plan_sheets.proofs.PictureGrowing.{range_grows}
use Rattle.plan_sheets.proofs.pictures.rows.put_nodes.Goals as goal

pub loop-node-preserved : goal.loop-node-preserved
loop-node-preserved c = range_grows _ _ _ (node_text c.args.canvas.now c.args.instance.now) c.loop-node.node c.loop-node.invariant c.in_ok-put_node.ensures

pub returns : goal.returns
unfolding nodes_text
returns c =
    let all : c.loop-node.node ≡ length c.args.instance.now.nodes = omega (arith, ap length c.nodes-count.ensures.value) in
    rw all at c.loop-node.invariant
