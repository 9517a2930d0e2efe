use Rattle.std.proofs.Common.{◌≡◌, ◌≤◌, drop, length, reverse}
use Rattle.certificate.specs.Trees.{trees_of}
use Rattle.certificate_reasons.specs.Heights.{heights}
use Rattle.certificate_reasons.proofs.depth.levels.Given as goal

abbrev pub invariant-loop-left : goal.invariant-loop-left
invariant-loop-left l = record {
  inside : l.left ≤ length l.nodes;
  heights : reverse l.heights.items ≡ heights (trees_of (drop l.left l.nodes));
}

abbrev pub decreases-loop-left : goal.decreases-loop-left
decreases-loop-left l = l.left
