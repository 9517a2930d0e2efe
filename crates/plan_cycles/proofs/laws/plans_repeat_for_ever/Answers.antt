use Rattle.std.proofs.Common.{◌*◌, arith}
use Rattle.std.proofs.Math.Nat.{div-mul-le_self}
use Rattle.ttp_model.specs.Slots.{round_length}
use Rattle.tt_layout.specs.Cycle.{cycle_rounds}
use Rattle.plan_cycles.specs.Cycles.{whole_rounds}
use Rattle.plan_cycles.proofs.Repeated.{repeats}
use Rattle.plan_cycles.proofs.laws.plans_repeat_for_ever.Goals as goal

pub returns-clause-period : goal.returns-clause-period
returns-clause-period c = λ i plan period w v enough.
    repeats period (whole_rounds period i plan) i plan w v (div-mul-le_self period (round_length i.cluster plan.caps)) enough

pub returns-clause-at_once : goal.returns-clause-at_once
returns-clause-at_once c = λ i plan w v.
    repeats (cycle_rounds i plan * round_length i.cluster plan.caps) (cycle_rounds i plan) i plan w v (omega arith) (omega arith)
