-- When a plan's slots have times: private contracts ask for it.
use Rattle.std.specs.Prelude.{length}
use Rattle.ttp_model.specs.declared.plan.Plan.{Plan}
use Rattle.ttp_model.specs.Instance.{Instance}
use Rattle.ttp_model.specs.Lists.{EachBelow}
use Rattle.ttp_model.specs.Plans.{HasLengths, HasOwnCapacity, IsNodeOrder}

-- its lists have their lengths, its order the nodes, and each node one of its own capacities
pub record CanBeLaid (i : Instance) (plan : Plan) : Type 0 where
  pub lengths : HasLengths i plan
  pub order : IsNodeOrder (length i.nodes) plan.order
  pub capacities : EachBelow (length i.nodes) (HasOwnCapacity i plan.caps)
