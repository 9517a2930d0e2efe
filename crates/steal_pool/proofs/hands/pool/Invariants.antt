use Rattle.std.proofs.Common.{◌≡◌, List, length, vec_len}
use Rattle.steal_pool.specs.Door.{DequeId}
use Rattle.steal_pool.specs.Hand.{IsFresh}
use Rattle.steal_pool.proofs.Pools.{Each, Made}
use Rattle.steal_pool.proofs.hands.pool.Given as goal

abbrev pub invariant-loop-number : goal.invariant-loop-number
invariant-loop-number g l = (vec_len l.hands ≡ l.number) × Each IsFresh l.hands.items

abbrev pub invariant-loop-to : goal.invariant-loop-to
invariant-loop-to g l = (ids : List DequeId) × (length ids ≡ l.workers) × (vec_len l.hands ≡ l.workers) × Each (Made ids l.to 0 0) l.hands.items

abbrev pub invariant-loop-from : goal.invariant-loop-from
invariant-loop-from g l = (ids : List DequeId) × (length ids ≡ l.workers) × (vec_len l.hands ≡ l.workers) × Each (Made ids l.to l.from l.from) l.hands.items
