-- How long the cycle of a plan is, and when the next one may begin. Own profile.
use Rattle.std.specs.Prelude.{◌≡◌, ◌*◌}
use Rattle.ttp_model.specs.declared.plan.Plan.{Plan}
use Rattle.ttp_model.specs.Instance.{Instance}
use Rattle.ttp_model.specs.Slots.{round_length}
use Rattle.tt_layout.specs.Cycle.{cycle_rounds}
use Rattle.plan_reasons.specs.declared.cycles.Cycle.{Cycle}

pub record IsCycle (i : Instance) (plan : Plan) (r : Cycle) : Type 0 where
  pub round_is : r.round ≡ round_length i.cluster plan.caps
  pub rounds_are : r.rounds ≡ cycle_rounds i plan
  pub next_is : r.next ≡ r.rounds * r.round
