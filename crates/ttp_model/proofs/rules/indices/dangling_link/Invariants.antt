use Rattle.std.proofs.Common.{◌<◌, ℕ}
use Rattle.ttp_model.specs.Instance.{link_at}
use Rattle.ttp_model.specs.Parts.{instance_of}
use Rattle.ttp_model.specs.Rules.{IsProcess}
use Rattle.ttp_model.proofs.rules.indices.dangling_link.Given as goal

abbrev pub invariant-loop-l : goal.invariant-loop-l
invariant-loop-l l = (k : ℕ) → k < l.l → IsProcess (instance_of l.parts) (link_at (instance_of l.parts) k).before × IsProcess (instance_of l.parts) (link_at (instance_of l.parts) k).after
