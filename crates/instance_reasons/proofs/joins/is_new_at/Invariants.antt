use Rattle.std.proofs.Common.{◌≢◌, slice_index}
use Rattle.ttp_model.specs.Lists.{EachBelow}
use Rattle.instance_reasons.proofs.joins.is_new_at.Given as goal

abbrev pub invariant-loop-j : goal.invariant-loop-j
invariant-loop-j l = EachBelow l.j (λ j. slice_index l.numbers j ≢ slice_index l.numbers l.k)
