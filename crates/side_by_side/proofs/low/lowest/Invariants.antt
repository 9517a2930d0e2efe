use Rattle.std.proofs.Common.{◌≡◌, drop}
use Rattle.side_by_side.specs.Bounds.{lowest}
use Rattle.side_by_side.proofs.low.lowest.Given as goal

abbrev pub invariant-loop-node : goal.invariant-loop-node
invariant-loop-node l = lowest l.low (drop l.node-index l.nodes) ≡ lowest l.fn.most l.nodes
