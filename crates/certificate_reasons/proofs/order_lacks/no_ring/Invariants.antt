use Rattle.std.proofs.Common.{ℕ, ◌+◌, ◌<◌, slice_index}
use Rattle.sought_plans.specs.Premises.{IsAhead}
use Rattle.certificate_reasons.proofs.order_lacks.no_ring.Given as goal

abbrev pub invariant-loop-k : goal.invariant-loop-k
invariant-loop-k l = (j : ℕ) → j + 1 < l.k → IsAhead l.facts.instance l.facts.known (slice_index l.processes j) (slice_index l.processes (j + 1))
