use Rattle.std.proofs.Common.{ℕ, ◌<◌}
use Rattle.tt_moves.specs.Alike.{Involves}
use Rattle.tt_moves.proofs.exchanges.has_no_messages.Given as goal

abbrev pub invariant-loop-m : goal.invariant-loop-m
invariant-loop-m l = (k : ℕ) → k < l.m → ¬ Involves l.instance k l.p
