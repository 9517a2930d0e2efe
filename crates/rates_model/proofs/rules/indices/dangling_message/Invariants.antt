use Rattle.std.proofs.Common.{All, ◌<◌, ℕ}
use Rattle.rates_model.specs.Rates.{message_at}
use Rattle.rates_model.specs.Parts.{rates_of}
use Rattle.rates_model.specs.Rules.{IsRatesProcess}
use Rattle.rates_model.proofs.rules.indices.dangling_message.Given as goal

abbrev pub invariant-loop-m : goal.invariant-loop-m
invariant-loop-m l = (k : ℕ) → k < l.m → IsRatesProcess (rates_of l.parts) (message_at (rates_of l.parts) k).sender × All (IsRatesProcess (rates_of l.parts)) (message_at (rates_of l.parts) k).receivers
