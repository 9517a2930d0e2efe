use Rattle.std.proofs.Common.{◌<◌, length, get_or, arith}
use Rattle.std.proofs.lemmas.List.Elements.{All-get_or}
use Rattle.plan_format.proofs.Spaced.{word_pushed, order_pushed}
use Rattle.plan_format.proofs.printing.push_order.Goals as goal

pub loop-n-preserved : goal.loop-n-preserved
loop-n-preserved c =
    let inside : get_or c.args.order.now c.loop-n.n-index 0 < length c.args.instance.now.nodes = All-get_or (λ n. n < length c.args.instance.now.nodes) c.args.order.now c.loop-n.n-index 0 c.loop-n-test.true c.requires.nodes in
    word_pushed c.args.instance.now c.args.order.now c.loop-n.n-index c.nodes.result.now c.index-nodes-n.result c.as_bytes.result.now c.extend_from_slice.new.self.items c.loop-n.text.items c.push.new.self.items c.extend_from_slice-in-loop-n.new.self.items
    c.loop-n-test.true inside c.nodes.ensures.value c.as_bytes.ensures c.loop-n.invariant c.in_ok-push.ensures.items
    c.in_ok-extend_from_slice-2.ensures.items

pub returns : goal.returns
returns c =
    order_pushed c.args.instance.now c.args.order.now c.loop-n.n-index c.args.text.now.items c.extend_from_slice.new.self.items c.loop-n.text.items c.push-2.new.self.items
    c.requires.some (omega (arith, c.loop-n-test.false, c.loop-n.auto.n-index-end)) c.in_ok-extend_from_slice.ensures.items c.loop-n.invariant c.in_ok-push-2.ensures.items
