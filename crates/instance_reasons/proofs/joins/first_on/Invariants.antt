use Rattle.std.proofs.Common.{◌≢◌, slice_index}
use Rattle.ttp_model.specs.Instance.{node_of}
use Rattle.ttp_model.specs.Lists.{EachBelow}
use Rattle.ttp_model.specs.Parts.{instance_of}
use Rattle.instance_reasons.proofs.joins.first_on.Given as goal

abbrev pub invariant-loop-k : goal.invariant-loop-k
invariant-loop-k l = EachBelow l.k (λ j. node_of (instance_of l.parts) (slice_index l.processes j) ≢ l.node)
