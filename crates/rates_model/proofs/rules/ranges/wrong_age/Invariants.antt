use Rattle.std.proofs.Common.{◌<◌, ℕ}
use Rattle.rates_model.specs.Rates.{chain_at}
use Rattle.rates_model.specs.Rules.{AreTicks}
use Rattle.rates_model.specs.Parts.{rates_of}
use Rattle.rates_model.proofs.rules.ranges.wrong_age.Given as goal

abbrev pub invariant-loop-c : goal.invariant-loop-c
invariant-loop-c l = (k : ℕ) → k < l.c → AreTicks (chain_at (rates_of l.parts) k).age
