-- A period that holds the rounds of a valid plan's cycle holds one.
use Rattle.std.proofs.Common.{ℕ, ◌*◌, ◌≤◌, arith}
use Rattle.std.proofs.Math.Nat.{div-mul-le_self, mul-le-mul_left}
use Rattle.ttp_model.specs.declared.plan.Plan.{Plan}
use Rattle.ttp_model.specs.Instance.{Instance}
use Rattle.ttp_model.specs.Rules.{IsInstance}
use Rattle.ttp_model.specs.Plans.{IsValid}
use Rattle.ttp_model.specs.Slots.{round_length}
use Rattle.tt_layout.specs.Cycle.{cycle_rounds}
use Rattle.plan_cycles.specs.Cycles.{whole_rounds}
use Rattle.plan_cycles.proofs.Periods.{cycle_some}

module _ (i : Instance) (plan : Plan) (w : IsInstance i) (v : IsValid i plan) where
  pub round_within : (period : ℕ) → cycle_rounds i plan ≤ whole_rounds period i plan → round_length i.cluster plan.caps ≤ period
  round_within period held =
      let round = round_length i.cluster plan.caps in
      let one : round * 1 ≤ round * whole_rounds period i plan = mul-le-mul_left round (omega (arith, held, cycle_some i plan w v)) in
      omega (arith, one, div-mul-le_self period round)
