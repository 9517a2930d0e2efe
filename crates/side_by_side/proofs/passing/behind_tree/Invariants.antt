use Rattle.std.proofs.Common.{◌≡◌, ◌≤◌, ◌-◌, ◌++◌, List, drop, length}
use Rattle.certificate.specs.declared.node.Node.{Node}
use Rattle.certificate.specs.Trees.{Trees, AreTrees, preorder}
use Rattle.side_by_side.proofs.LeftBehind.{Skips}
use Rattle.side_by_side.proofs.passing.behind_tree.Given as goal

abbrev pub invariant-nodes : goal.invariant-nodes
invariant-nodes l = record {
  inside : l.at ≤ length l.nodes;
  skips : (tree : Trees) (more : List Node) → AreTrees 1 tree → drop l.passed l.nodes ≡ preorder tree ++ more → Skips l.nodes l.at l.due more;
}

abbrev pub decreases-nodes : goal.decreases-nodes
decreases-nodes l = length l.nodes - l.at
