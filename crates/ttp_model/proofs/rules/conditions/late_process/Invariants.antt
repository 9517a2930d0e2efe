use Rattle.std.proofs.Common.{◌<◌, ℕ}
use Rattle.ttp_model.specs.Parts.{instance_of}
use Rattle.ttp_model.specs.Rules.{CanEndInTime}
use Rattle.ttp_model.proofs.rules.conditions.late_process.Given as goal

abbrev pub invariant-loop-p : goal.invariant-loop-p
invariant-loop-p l = (k : ℕ) → k < l.p → CanEndInTime (instance_of l.parts) k
