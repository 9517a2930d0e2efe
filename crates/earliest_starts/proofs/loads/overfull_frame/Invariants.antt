use Rattle.std.proofs.Common.{ℕ, ◌<◌, ◌≤◌, length}
use Rattle.ttp_model.specs.Totals.{total}
use Rattle.earliest_starts.specs.Fixed.{fixed_bytes}
use Rattle.earliest_starts.proofs.loads.overfull_frame.Given as goal

abbrev pub invariant-loop-k : goal.invariant-loop-k
invariant-loop-k l =
    (j r : ℕ) → j < l.k → total (fixed_bytes l.instance l.choice l.n r j) (length l.instance.messages) ≤ l.capacity
