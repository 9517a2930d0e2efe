use Rattle.std.proofs.Common.{◌<◌, ℕ, ◌≤◌}
use Rattle.rates_model.specs.declared.limits.TheConstants.{MOST_DELAY}
use Rattle.rates_model.specs.Rates.{link_at}
use Rattle.rates_model.specs.Parts.{rates_of}
use Rattle.rates_model.proofs.rules.ranges.late_link.Given as goal

abbrev pub invariant-loop-l : goal.invariant-loop-l
invariant-loop-l l = (k : ℕ) → k < l.l → (link_at (rates_of l.parts) k).delay ≤ MOST_DELAY
