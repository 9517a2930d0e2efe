use Rattle.std.proofs.Common.{◌≢◌}
use Rattle.ttp_model.specs.Lists.{EachBelow}
use Rattle.ttp_model.specs.Parts.{instance_of}
use Rattle.instance_reasons.specs.Shared.{name_in}
use Rattle.instance_reasons.proofs.shared.first_named.Given as goal

abbrev pub invariant-loop-k : goal.invariant-loop-k
invariant-loop-k l = EachBelow l.k (λ j. name_in (instance_of l.parts) l.list j ≢ name_in (instance_of l.parts) l.list l.second)
