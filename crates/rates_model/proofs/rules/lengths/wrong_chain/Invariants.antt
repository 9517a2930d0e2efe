use Rattle.std.proofs.Common.{◌<◌, ℕ}
use Rattle.rates_model.specs.Rules.{IsOfFewProcesses}
use Rattle.rates_model.specs.Parts.{rates_of}
use Rattle.rates_model.proofs.rules.lengths.wrong_chain.Given as goal

abbrev pub invariant-loop-c : goal.invariant-loop-c
invariant-loop-c l = (k : ℕ) → k < l.c → IsOfFewProcesses (rates_of l.parts) k
