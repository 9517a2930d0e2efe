-- What is compared: two instances, each with a plan of it. Own profile.
use Rattle.ttp_model.specs.declared.plan.Plan.{Plan}
use Rattle.ttp_model.specs.Instance.{Instance}

-- an instance with a plan of it
pub record Planned : Type 0 where
  pub instance : Instance
  pub plan : Plan
