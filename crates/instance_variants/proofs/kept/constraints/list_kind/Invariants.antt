use Rattle.std.proofs.Common.{◌≡◌, ◌++◌, map}
use Rattle.ttp_model.specs.Network.{indices}
use Rattle.instance_variants.specs.Constraints.{of_kind}
use Rattle.ttp_model.specs.Lists.{is_set}
use Rattle.instance_variants.proofs.kept.constraints.list_kind.Given as goal

abbrev pub invariant-loop-k : goal.invariant-loop-k
invariant-loop-k l = l.list.items ≡ l.fn.list.items ++ map (of_kind l.kind) (indices (is_set l.flags) l.k)
