use Rattle.std.proofs.Common.{◌≢◌, ◌<◌, ◌+◌, ◌*◌, ◌%◌, ℕ}
use Rattle.rates_model.proofs.cycles.least_multiple.Given as goal

abbrev pub invariant-loop-k : goal.invariant-loop-k
invariant-loop-k l = (i : ℕ) → i < l.k → l.ticks * (i + 1) % l.period ≢ 0
