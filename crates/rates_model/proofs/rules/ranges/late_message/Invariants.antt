use Rattle.std.proofs.Common.{◌<◌, ℕ, ◌≤◌}
use Rattle.rates_model.specs.declared.limits.TheConstants.{MOST_DELAY}
use Rattle.rates_model.specs.Rates.{message_at}
use Rattle.rates_model.specs.Parts.{rates_of}
use Rattle.rates_model.proofs.rules.ranges.late_message.Given as goal

abbrev pub invariant-loop-m : goal.invariant-loop-m
invariant-loop-m l = (k : ℕ) → k < l.m → (message_at (rates_of l.parts) k).delay ≤ MOST_DELAY
