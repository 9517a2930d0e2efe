use Rattle.std.proofs.Common.{◌<◌, ℕ}
use Rattle.rates_model.specs.Rates.{process_at}
use Rattle.rates_model.specs.Rules.{AreTicks}
use Rattle.rates_model.specs.Parts.{rates_of}
use Rattle.rates_model.proofs.rules.ranges.wrong_period.Given as goal

abbrev pub invariant-loop-p : goal.invariant-loop-p
invariant-loop-p l = (k : ℕ) → k < l.p → AreTicks (process_at (rates_of l.parts) k).period
