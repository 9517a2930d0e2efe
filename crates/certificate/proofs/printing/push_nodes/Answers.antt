use Rattle.certificate.specs.Spelling.{node_text, NodeHasText}
use Rattle.certificate.proofs.Pushed.{more_text, more_fit, all_fit}
use Rattle.certificate.proofs.printing.push_nodes.Goals as goal

pub loop-node-preserved : goal.loop-node-preserved
loop-node-preserved c = (
  more_text node_text c.args.nodes.now c.loop-node.node-index c.node-item.result c.args.text.now.items c.loop-node.text.items c.push_node.new.text.items
      c.loop-node-test.true c.node-item.is c.loop-node.invariant.0 c.in_ok-push_node.ensures.text,
  more_fit NodeHasText c.args.nodes.now c.loop-node.node-index c.node-item.result c.loop-node-test.true c.node-item.is c.loop-node.invariant.1
      c.in_ok-push_node.ensures.fits,
)

pub returns-clause-fits : goal.returns-clause-fits
returns-clause-fits c = all_fit NodeHasText c.args.nodes.now c.loop-node.node-index c.loop-node-test.false c.loop-node.invariant.1
