use Rattle.std.proofs.Common.{◌≡◌, map}
use Rattle.ttp_model.specs.Instance.{link_at}
use Rattle.ttp_model.specs.Network.{indices}
use Rattle.ttp_model.specs.Lists.{is_set}
use Rattle.instance_variants.proofs.kept.only.links.Given as goal

abbrev pub invariant-loop-l : goal.invariant-loop-l
invariant-loop-l l = l.all.items ≡ map (link_at l.instance) (indices (is_set l.constraints.links) l.l)
