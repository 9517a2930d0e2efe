use Rattle.std.proofs.Common.{◌≡◌, vec_len}
use Rattle.steal_pool.proofs.Drains.{Emptied}
use Rattle.steal_pool.proofs.hands.next_of.Given as goal

abbrev pub invariant-loop-place : goal.invariant-loop-place
invariant-loop-place g l = (vec_len l.hands ≡ vec_len l.initial.hands) × Emptied l.place l.initial.hands.items l.hands.items
