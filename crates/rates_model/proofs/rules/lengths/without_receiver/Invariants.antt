use Rattle.std.proofs.Common.{◌<◌, ℕ}
use Rattle.rates_model.specs.Parts.{rates_of}
use Rattle.rates_model.specs.Rules.{HasSomeReceiver}
use Rattle.rates_model.proofs.rules.lengths.without_receiver.Given as goal

abbrev pub invariant-loop-m : goal.invariant-loop-m
invariant-loop-m l = (k : ℕ) → k < l.m → HasSomeReceiver (rates_of l.parts) k
