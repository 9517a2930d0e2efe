use Rattle.std.proofs.Common.{◌<◌, ◌∙◌, length, arith, refl}
use Rattle.certificate.specs.Lines.{line_of, node_lines}
use Rattle.tree_check.proofs.LeafSteps.{told_on}
use Rattle.tree_check.proofs.Nodes.{line_after}
use Rattle.side_by_side.proofs.telling.line_at.Goals as goal

pub loop-k-init : goal.loop-k-init
loop-k-init c = refl

pub loop-k-preserved : goal.loop-k-preserved
loop-k-preserved c =
    let nodes = c.args.nodes.now in
    let inside : c.loop-k.k < length nodes = omega (arith, c.loop-k-test.true, c.requires) in
    rw (line_after nodes c.loop-k.k c.index-nodes-k.result inside c.index-nodes-k.is)
    (c.saturating_add-line.ensures ∙ rw c.lines.ensures
    (told_on c.loop-k.line (line_of nodes c.loop-k.k) (node_lines c.index-nodes-k.result) c.loop-k.invariant))
