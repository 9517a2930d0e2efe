-- A message that is ready within the horizon is so in a round that a plan can name.
use Rattle.std.proofs.Common.{ℕ, ◌<◌, ◌≤◌, length, arith}
use Rattle.ttp_model.specs.declared.error.Place.TheVariants.{AtCluster, AtMessage}
use Rattle.ttp_model.specs.declared.plan.Plan.{Plan}
use Rattle.ttp_model.specs.Instance.{Instance, message_at, source_of}
use Rattle.ttp_model.specs.Lists.{EachBelow}
use Rattle.ttp_model.specs.Plans.{EndsInTime}
use Rattle.ttp_model.specs.Rules.{IsInstance}
use Rattle.ttp_model.specs.Slots.{round_length}
use Rattle.ttp_model.proofs.Times.{round-le-slot_start, round_length-positive}
use Rattle.plan_facts.specs.Messages.{IsFirstInTime, ready_at}
use Rattle.plan_reasons.specs.Slots.{CanBeLaid}

-- a round takes time
some_round : (i : Instance) (plan : Plan) → IsInstance i → CanBeLaid i plan → 0 < round_length i.cluster plan.caps
some_round i plan w places = round_length-positive i.cluster plan.caps (w.ranges AtCluster) (omega (arith, places.lengths.capacities, w.limits.nodes_least))

ready_early : (i : Instance) (plan : Plan) (m : ℕ) → IsInstance i → m < length i.messages
    → EachBelow (length i.processes) (EndsInTime i plan) → ready_at i plan m ≤ 1010000
ready_early i plan m w inside in_time =
    let sender = (w.indices (AtMessage m) inside).0 in
    omega (arith, (in_time (message_at i m).sender sender).1, (w.ranges AtCluster).horizon, (w.ranges AtCluster).copy_out)

pub first_named : (i : Instance) (plan : Plan) (m round : ℕ) → IsInstance i → CanBeLaid i plan → m < length i.messages
    → EachBelow (length i.processes) (EndsInTime i plan) → IsFirstInTime i plan m round → round ≤ 1010000
first_named i plan m round w places inside in_time first =
    let time = ready_at i plan m in
    let least = first.least time (round-le-slot_start i.cluster plan.order plan.caps (source_of i m) time (some_round i plan w places)) in
    omega (arith, least, ready_early i plan m w inside in_time)
