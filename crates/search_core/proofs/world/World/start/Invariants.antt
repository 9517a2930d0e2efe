use Rattle.std.proofs.Common.{◌≡◌, ◌∷◌, [], ◌-◌, replicate}
use Rattle.search_trees.specs.Name.{root_name}
use Rattle.search_core.specs.World.{idle_seat}
use Rattle.search_core.proofs.world.World.start.Given as goal

abbrev pub invariant-loop : goal.invariant-loop
invariant-loop l = l.idle.items ≡ (record (idle_seat l.top) { deque = root_name ∷ [] }) ∷ replicate (l.counter - 1) (idle_seat l.top)
