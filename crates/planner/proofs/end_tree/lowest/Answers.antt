use Rattle.planner.proofs.Lowest.{leaf_more, branch_more}
use Rattle.std.proofs.Common.{◌∙◌}
use Rattle.planner.proofs.end_tree.lowest.Goals as goal
use Rattle.planner.proofs.end_tree.lowest.Goals.{in-Leaf, in-Branch}

pub loop-node-preserved : goal.loop-node-preserved
loop-node-preserved c = elim c.match-node.branch [
  | in-Leaf w ↦
      leaf_more c.args.limit c.args.nodes.now c.loop-node.node-index c.node-item.result w.in-Leaf.leaf c.loop-node.low c.match-node.low c.loop-node-test.true
      c.node-item.is w.in-Leaf.is (w.low-is ∙ w.min-low.ensures) c.loop-node.invariant
  | in-Branch w ↦
      branch_more c.args.limit c.args.nodes.now c.loop-node.node-index c.node-item.result w.in-Branch.field-0 c.match-node.low c.loop-node-test.true c.node-item.is
      w.in-Branch.is (rw w.low-is c.loop-node.invariant)
]
