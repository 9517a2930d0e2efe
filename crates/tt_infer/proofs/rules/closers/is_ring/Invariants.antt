use Rattle.std.proofs.Common.{ℕ, ◌+◌, ◌<◌, slice_index}
use Rattle.sought_plans.specs.Premises.{IsAhead}
use Rattle.tt_infer.proofs.rules.closers.is_ring.Given as goal

abbrev pub invariant-loop-k : goal.invariant-loop-k
invariant-loop-k l = (j : ℕ) → j + 1 < l.k → IsAhead l.instance l.known (slice_index l.processes j) (slice_index l.processes (j + 1))
