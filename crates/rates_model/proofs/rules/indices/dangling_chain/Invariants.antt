use Rattle.std.proofs.Common.{◌<◌, ℕ, All}
use Rattle.rates_model.specs.Rates.{chain_at}
use Rattle.rates_model.specs.Rules.{IsRatesProcess}
use Rattle.rates_model.specs.Parts.{rates_of}
use Rattle.rates_model.proofs.rules.indices.dangling_chain.Given as goal

abbrev pub invariant-loop-c : goal.invariant-loop-c
invariant-loop-c l = (k : ℕ) → k < l.c → All (IsRatesProcess (rates_of l.parts)) (chain_at (rates_of l.parts) k).through
