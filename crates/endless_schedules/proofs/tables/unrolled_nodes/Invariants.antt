use Rattle.std.proofs.Common.{◌≡◌, map, take}
use Rattle.endless_schedules.specs.Unrolled.{unrolled_node}
use Rattle.endless_schedules.proofs.tables.unrolled_nodes.Given as goal

abbrev pub invariant-loop-node : goal.invariant-loop-node
invariant-loop-node l = l.nodes.items ≡ map unrolled_node (take l.node-index l.node-items)
