use Rattle.std.proofs.Common.{ℕ, ◌<◌, ◌≤◌}
use Rattle.earliest_starts.specs.Fixed.{copied_out, sends_from}
use Rattle.earliest_starts.proofs.frames.late_message.Given as goal

abbrev pub invariant-loop-m : goal.invariant-loop-m
invariant-loop-m l = (k : ℕ) → k < l.m → copied_out l.instance l.starts k ≤ sends_from l.instance l.choice k
