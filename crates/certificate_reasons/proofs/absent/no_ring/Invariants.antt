use Rattle.std.proofs.Common.{ℕ, ◌<◌, length, slice_index}
use Rattle.certificate_reasons.proofs.absent.no_ring.Given as goal

abbrev pub invariant-loop-k : goal.invariant-loop-k
invariant-loop-k l = (j : ℕ) → j < l.k → slice_index l.processes j < length l.fn.instance.processes
