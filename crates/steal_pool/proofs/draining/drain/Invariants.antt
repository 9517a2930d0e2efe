use Rattle.std.proofs.Common.{◌≡◌, ℕ, ◌+◌, List, length, vec_len, IsPermutation}
use Rattle.steal_pool.specs.Door.{DequeId}
use Rattle.steal_pool.specs.Hand.{all_pushed, all_taken}
use Rattle.steal_pool.proofs.Pools.{Each}
use Rattle.steal_pool.proofs.Drains.{Left, Counted}
use Rattle.steal_pool.proofs.draining.drain.Given as goal

abbrev pub invariant-loop-from : goal.invariant-loop-from
invariant-loop-from g l =
    (ids : List DequeId) × (length ids ≡ l.count) × (vec_len l.hands ≡ l.count) × Each (Left ids l.from l.count l.count) l.hands.items
    × (all_pushed l.hands.items ≡ all_pushed l.fn.hands.items) × IsPermutation (all_taken l.hands.items) (all_taken l.fn.hands.items)

abbrev pub invariant-loop-left : goal.invariant-loop-left
invariant-loop-left g l =
    (ids : List DequeId) × (ways : ℕ) × (ways + l.left ≡ l.count) × (length ids ≡ l.count) × (vec_len l.hands ≡ l.count)
    × Each (Left ids l.from ways ways) l.hands.items
    × (all_pushed l.hands.items ≡ all_pushed l.fn.hands.items) × IsPermutation (all_taken l.hands.items) (all_taken l.fn.hands.items)

abbrev pub invariant-loop-place : goal.invariant-loop-place
invariant-loop-place g l =
    (vec_len l.hands ≡ l.count) × Counted l.place l.hands.items
    × (all_pushed l.hands.items ≡ all_pushed l.fn.hands.items) × IsPermutation (all_taken l.hands.items) (all_taken l.fn.hands.items)
