use Rattle.std.proofs.Common.{◌<◌, ℕ}
use Rattle.ttp_model.specs.Parts.{instance_of}
use Rattle.ttp_model.specs.Rules.{HasChannels}
use Rattle.ttp_model.proofs.rules.channels.both_of_one.Given as goal

abbrev pub invariant-loop-m : goal.invariant-loop-m
invariant-loop-m l = (k : ℕ) → k < l.m → HasChannels (instance_of l.parts) k
