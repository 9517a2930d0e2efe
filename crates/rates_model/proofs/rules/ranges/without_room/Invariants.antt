use Rattle.std.proofs.Common.{◌<◌, ℕ}
use Rattle.rates_model.specs.Rules.{HasRoom}
use Rattle.rates_model.specs.Parts.{rates_of}
use Rattle.rates_model.proofs.rules.ranges.without_room.Given as goal

abbrev pub invariant-loop-p : goal.invariant-loop-p
invariant-loop-p l = (k : ℕ) → k < l.p → HasRoom (rates_of l.parts) k
