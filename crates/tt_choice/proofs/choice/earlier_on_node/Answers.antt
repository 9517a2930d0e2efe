use Rattle.std.proofs.Common.{arith}
use Rattle.tt_choice.proofs.Pairs.{count_same, count_other}
use Rattle.tt_choice.proofs.choice.earlier_on_node.Goals as goal
use Rattle.tt_choice.proofs.choice.earlier_on_node.Goals.{then-node_of-node, else-node_of-node}

pub loop-q-preserved : goal.loop-q-preserved
loop-q-preserved c =
    let h = c.loop-q.invariant in
    elim c.if-node_of-node.branch [
      | then-node_of-node w ↦
          let same = rw (c.node_of.ensures.value, c.node_of-node.ensures.value) at w.if-node_of-node.true in
          rw w.earlier-is (count_same c.args.instance.now c.args.p c.loop-q.q c.loop-q.earlier same h.0, omega arith)
      | else-node_of-node w ↦
          let differ = rw (c.node_of.ensures.value, c.node_of-node.ensures.value) at w.if-node_of-node.false in
          rw w.earlier-is (count_other c.args.instance.now c.args.p c.loop-q.q c.loop-q.earlier differ h.0, omega arith)
    ]
