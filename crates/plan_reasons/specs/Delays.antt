-- Why a stated delay is refused: the plan's own, and the process that ends then, of several the first. Own profile.
use Rattle.std.specs.Prelude.{◌≡◌, ℕ}
use Rattle.ttp_model.specs.declared.plan.Plan.{Plan}
use Rattle.ttp_model.specs.Delays.{delay}
use Rattle.ttp_model.specs.Instance.{Instance}
use Rattle.ttp_model.specs.Names.{place_name, process_name}
use Rattle.plan_reasons.specs.PlanChains.{IsLastToEnd}
use Rattle.plan_reasons.specs.declared.delays.OtherDelay.{OtherDelay}
use Rattle.plan_reasons.specs.Differences.{IsDifference}

pub record IsOtherDelay (i : Instance) (plan : Plan) (stated : ℕ) (r : OtherDelay) : Type 0 where
  pub stated_is : r.stated ≡ stated
  pub own_is : r.own ≡ delay i plan
  pub last : ℕ
  pub ends_last : IsLastToEnd i plan last
  pub process_is : r.process.now ≡ process_name i last
  pub node_is : r.node.now ≡ place_name i last
  pub by_is : IsDifference r.stated r.own r.by
