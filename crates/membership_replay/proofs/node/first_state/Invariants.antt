use Rattle.std.proofs.Common.{◌≡◌, ℕ, ◌<◌, false, length, get_or, nat_lt}
use Rattle.ttp_model.specs.declared.limits.TheConstants.{MOST_NODES}
use Rattle.membership_replay.proofs.node.first_state.Given as goal

abbrev pub invariant-loop-k : goal.invariant-loop-k
invariant-loop-k l = (length l.vector ≡ MOST_NODES) × ((k : ℕ) → k < l.k → get_or l.vector k false ≡ nat_lt k l.count)
