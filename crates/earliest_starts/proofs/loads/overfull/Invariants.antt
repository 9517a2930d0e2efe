use Rattle.std.proofs.Common.{ℕ, ◌<◌, ◌≤◌, length, slice_index}
use Rattle.ttp_model.specs.Totals.{total}
use Rattle.earliest_starts.specs.Fixed.{fixed_caps, fixed_bytes}
use Rattle.earliest_starts.proofs.loads.overfull.Given as goal

abbrev pub invariant-loop-n : goal.invariant-loop-n
invariant-loop-n l =
    (n r k : ℕ) → n < l.n → k < l.instance.cluster.channels
    → total (fixed_bytes l.instance l.choice n r k) (length l.instance.messages) ≤ slice_index (fixed_caps l.choice) n
