use Rattle.std.proofs.Common.{◌≢◌, ℕ, ◌<◌}
use Rattle.ttp_model.specs.Instance.{source_of}
use Rattle.tt_moves.proofs.exchanges.is_silent.Given as goal

abbrev pub invariant-loop-m : goal.invariant-loop-m
invariant-loop-m l = (k : ℕ) → k < l.m → source_of l.instance k ≢ l.u
