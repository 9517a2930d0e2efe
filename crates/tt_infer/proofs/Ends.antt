-- The steps that tell when a process ends at most are sound.
use Rattle.std.proofs.Common.{ℕ, ◌-◌, arith}
use Rattle.ttp_model.specs.declared.plan.Plan.{Plan}
use Rattle.ttp_model.specs.declared.step.Step.TheVariants.{LeOwn, LeLink, LeBefore, LeMessage, LeSend}
use Rattle.ttp_model.specs.declared.error.Place.TheVariants.{AtLink}
use Rattle.ttp_model.specs.Instance.{Instance, link_at, source_of}
use Rattle.ttp_model.specs.Rules.{IsInstance}
use Rattle.ttp_model.specs.Plans.{IsValid, end_of, round_of}
use Rattle.ttp_model.proofs.ValidPlans.{greatest_each}
use Rattle.tt_choice.specs.Choice.{Choice, IsChoice}
use Rattle.tt_choice.proofs.Bounds.{start_most_later}
use Rattle.sought_plans.specs.Known.{Known, IsSought, AreTrueOf, top_of}
use Rattle.tt_infer.proofs.Soundness.{IsSoundFor}
use Rattle.tt_infer.proofs.Sending.{receiver_is, comes, sent_for_least, sent_from_most}

-- its deadline, the horizon, and the plan's delay, which is below the goal
pub le_own_sound : (i : Instance) (c : Choice) (goal : ℕ) (f : Known) (plan : Plan) (p : ℕ) → IsSought i c goal plan → IsSoundFor i c goal f plan (LeOwn p)
le_own_sound i c goal f plan p sought k there premise is =
    let limit = sought.settled.valid.in_time p there in
    let delay = greatest_each (end_of i plan) _ p there in
    rw is (omega (arith, limit, delay, sought.better))

-- a link's second process has to start
pub le_link_sound : (i : Instance) (c : Choice) (goal : ℕ) (f : Known) (plan : Plan) (l : ℕ) → IsInstance i → IsValid i plan → AreTrueOf i plan f → IsSoundFor i c goal f plan (LeLink l)
le_link_sound i c goal f plan l w v t k there premise is =
    let ends = w.indices (AtLink l) there in
    let kept = v.links l there in
    let last = t.le (link_at i l).after ends.1 in
    rw is (omega (arith, kept, last))

-- a process that it goes before has to start
pub le_before_sound : (i : Instance) (c : Choice) (goal : ℕ) (f : Known) (plan : Plan) (p q : ℕ) → AreTrueOf i plan f → IsSoundFor i c goal f plan (LeBefore p q)
le_before_sound i c goal f plan p q t k there premise is =
    let kept = t.bef p q premise in
    let last = t.le q there.second in
    rw is (omega (arith, kept, last))

-- its message has to reach a receiver
pub le_message_sound : (i : Instance) (c : Choice) (goal : ℕ) (f : Known) (plan : Plan) (m q : ℕ) → IsInstance i → IsSought i c goal plan → AreTrueOf i plan f → IsSoundFor i c goal f plan (LeMessage m q)
le_message_sound i c goal f plan m q w sought t k there premise is =
    let come = comes i plan m q sought.settled.valid there in
    let ready = sought.settled.valid.ready m there.0 in
    let last = t.le q (receiver_is i m q w there) in
    let long = sent_for_least i c goal plan m w sought there.0 in
    rw is (omega (arith, come, ready, last, long))

-- its message has to be ready when the slot of its last round begins
pub le_send_sound : (i : Instance) (c : Choice) (goal : ℕ) (f : Known) (plan : Plan) (m : ℕ) → IsInstance i → IsChoice i c → IsSought i c goal plan → AreTrueOf i plan f → IsSoundFor i c goal f plan (LeSend m)
le_send_sound i c goal f plan m w ok sought t k there premise is =
    let ready = sought.settled.valid.ready m there in
    let high = sent_from_most i c goal plan m w sought there ok in
    let below = t.top m there in
    let later = start_most_later i c (source_of i m) (round_of plan m) (top_of f m - 1) (omega (arith, below)) in
    rw is (omega (arith, ready, high, later))
