use Rattle.std.proofs.Common.{◌≤◌, length, reverse, drop}
use Rattle.certificate.specs.Trees.{trees_of}
use Rattle.used_decisions.specs.Heights.{HaveHeights}
use Rattle.used_decisions.proofs.heights.is_tree.Given as goal

abbrev pub invariant-loop-left : goal.invariant-loop-left
invariant-loop-left l = record {
  inside : l.left ≤ length l.nodes;
  have : HaveHeights (reverse l.heights.items) (trees_of (drop l.left l.nodes));
}

abbrev pub decreases-loop-left : goal.decreases-loop-left
decreases-loop-left l = l.left
