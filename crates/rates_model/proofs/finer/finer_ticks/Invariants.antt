use Rattle.std.proofs.Common.{◌≢◌, ◌<◌, ◌+◌, ◌*◌, ◌%◌, ℕ}
use Rattle.rates_model.proofs.finer.finer_ticks.Given as goal

abbrev pub invariant-loop-k : goal.invariant-loop-k
invariant-loop-k l = (i : ℕ) → i < l.k → l.rest * (i + 1) % l.slots ≢ 0
