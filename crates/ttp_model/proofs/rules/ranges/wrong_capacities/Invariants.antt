use Rattle.std.proofs.Common.{◌<◌, ℕ}
use Rattle.ttp_model.specs.Parts.{instance_of}
use Rattle.ttp_model.specs.Rules.{HasCapacityList}
use Rattle.ttp_model.proofs.rules.ranges.wrong_capacities.Given as goal

abbrev pub invariant-loop-n : goal.invariant-loop-n
invariant-loop-n l = (k : ℕ) → k < l.n → HasCapacityList (instance_of l.parts) k
