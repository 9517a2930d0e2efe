use Rattle.std.proofs.Common.{◌≡◌, map, slice_index, take}
use Rattle.ttp_model.specs.Lists.{greatest}
use Rattle.plan_questions.proofs.limits.chains.greatest_of.Given as goal

abbrev pub invariant-loop-p : goal.invariant-loop-p
invariant-loop-p l = l.greatest ≡ greatest (map (slice_index l.times) (take l.p-index l.processes))
