use Rattle.std.proofs.Common.{take}
use Rattle.planner.specs.Searched.{IsLowest}
use Rattle.planner.proofs.end_tree.lowest.Given as goal

abbrev pub invariant-loop-node : goal.invariant-loop-node
invariant-loop-node l = IsLowest l.limit (take l.node-index l.nodes) l.low
