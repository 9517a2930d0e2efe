use Rattle.std.proofs.Common.{◌≡◌, ◌++◌, map, take}
use Rattle.endless_schedules.specs.Unrolled.{store}
use Rattle.endless_schedules.proofs.stores.push_stores_at.Given as goal

abbrev pub invariant-loop-node : goal.invariant-loop-node
invariant-loop-node l = l.list.items ≡ l.initial.list.items ++ map (store l.rates l.message) (take l.node-index l.nodes)
