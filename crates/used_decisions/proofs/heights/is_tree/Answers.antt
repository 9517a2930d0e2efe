use Rattle.std.proofs.Common.{arith}
use Rattle.used_decisions.proofs.TreeHeights.{none_left, one_more}
use Rattle.used_decisions.proofs.heights.is_tree.Goals as goal

pub loop-left-init : goal.loop-left-init
loop-left-init c = record {
  inside = omega arith;
  have = none_left c.new-heights.result.items c.args.nodes.now c.new-heights.ensures.items;
}

pub loop-left-preserved : goal.loop-left-preserved
loop-left-preserved c = record {
  inside = omega arith;
  have =
      one_more c.args.nodes.now c.loop-left.left c.index-nodes-left.result c.children.result c.in-Some.most c.loop-left.heights.items
      c.take_off.new.heights.items c.push.new.self.items
      c.loop-left-test.true c.loop-left.invariant.inside c.index-nodes-left.is c.children.ensures c.loop-left.invariant.have c.in-Some.ensures
      c.in_ok-push-in-Some.ensures.items;
}
