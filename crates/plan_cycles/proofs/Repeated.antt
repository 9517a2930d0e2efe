-- A valid plan repeats for ever in periods that hold the rounds of its cycle.
use Rattle.std.proofs.Common.{ℕ, ◌*◌, ◌≤◌, arith}
use Rattle.ttp_model.specs.declared.plan.Plan.{Plan}
use Rattle.ttp_model.specs.Instance.{Instance}
use Rattle.ttp_model.specs.Rules.{IsInstance}
use Rattle.ttp_model.specs.Plans.{IsValid}
use Rattle.ttp_model.specs.Slots.{round_length}
use Rattle.tt_layout.specs.Cycle.{cycle_rounds}
use Rattle.plan_cycles.specs.Repeating.{RepeatsForEver}
use Rattle.plan_cycles.proofs.CycleSlots.{slots_apart}
use Rattle.plan_cycles.proofs.Executions.{executions_apart}
use Rattle.plan_cycles.proofs.Guarded.{frames_pass, never_at_once}
use Rattle.plan_cycles.proofs.Loads.{frames_hold}
use Rattle.plan_cycles.proofs.Periods.{ends_within, round_inside}

pub repeats : (period rounds : ℕ) (i : Instance) (plan : Plan) → IsInstance i → IsValid i plan → rounds * round_length i.cluster plan.caps ≤ period → cycle_rounds i plan ≤ rounds → RepeatsForEver period rounds i plan
repeats period rounds i plan w v fits enough =
    let apart = slots_apart i plan v period rounds fits in
    record {
      executions = executions_apart period i plan v (λ p inside. omega (arith, ends_within i plan w v rounds p enough inside, fits));
      slots = apart;
      sent = λ m inside. omega (arith, round_inside i plan w v m inside, enough);
      frames = frames_hold i plan w v period rounds fits enough;
      admitted = frames_pass period rounds i plan w;
      guarded = never_at_once period rounds i plan w apart;
    }
