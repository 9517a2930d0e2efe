use Rattle.std.proofs.Common.{◌<◌, ℕ}
use Rattle.ttp_model.specs.Parts.{instance_of}
use Rattle.ttp_model.specs.Rules.{StaysOnNode}
use Rattle.ttp_model.proofs.rules.conditions.link_across.Given as goal

abbrev pub invariant-loop-l : goal.invariant-loop-l
invariant-loop-l l = (k : ℕ) → k < l.l → StaysOnNode (instance_of l.parts) k
