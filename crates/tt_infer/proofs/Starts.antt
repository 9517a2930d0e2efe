-- The steps that tell when a process starts at least are sound.
use Rattle.std.proofs.Common.{ℕ, arith}
use Rattle.ttp_model.specs.declared.plan.Plan.{Plan}
use Rattle.ttp_model.specs.declared.step.Step.TheVariants.{EsRelease, EsLink, EsBefore, EsArrive, EsMessage}
use Rattle.ttp_model.specs.declared.error.Place.TheVariants.{AtLink}
use Rattle.ttp_model.specs.Instance.{Instance, link_at, source_of}
use Rattle.ttp_model.specs.Rules.{IsInstance}
use Rattle.ttp_model.specs.Plans.{IsValid, round_of}
use Rattle.tt_choice.specs.Choice.{Choice, IsChoice}
use Rattle.tt_choice.proofs.Bounds.{end_least_later}
use Rattle.sought_plans.specs.Known.{Known, IsSought, AreTrueOf, lo_of}
use Rattle.sought_plans.specs.Premises.{sender_of}
use Rattle.tt_infer.proofs.Soundness.{IsSoundFor}
use Rattle.tt_infer.proofs.Sending.{sender_is, comes, sent_for_least, sent_until_least}

-- it is released
pub es_release_sound : (i : Instance) (c : Choice) (goal : ℕ) (f : Known) (plan : Plan) (p : ℕ) → IsValid i plan → IsSoundFor i c goal f plan (EsRelease p)
es_release_sound i c goal f plan p v k there premise is = rw is (omega (arith, v.released p there))

-- a link's first process has ended
pub es_link_sound : (i : Instance) (c : Choice) (goal : ℕ) (f : Known) (plan : Plan) (l : ℕ) → IsInstance i → IsValid i plan → AreTrueOf i plan f → IsSoundFor i c goal f plan (EsLink l)
es_link_sound i c goal f plan l w v t k there premise is =
    let ends = w.indices (AtLink l) there in
    let kept = v.links l there in
    let first = t.es (link_at i l).before ends.0 in
    rw is (omega (arith, kept, first))

-- a process that goes before it has ended
pub es_before_sound : (i : Instance) (c : Choice) (goal : ℕ) (f : Known) (plan : Plan) (p q : ℕ) → AreTrueOf i plan f → IsSoundFor i c goal f plan (EsBefore p q)
es_before_sound i c goal f plan p q t k there premise is =
    let kept = t.bef p q premise in
    let first = t.es p there.first in
    rw is (omega (arith, kept, first))

-- a message was sent in its least round, or later
pub es_arrive_sound : (i : Instance) (c : Choice) (goal : ℕ) (f : Known) (plan : Plan) (m q : ℕ) → IsInstance i → IsChoice i c → IsSought i c goal plan → AreTrueOf i plan f → IsSoundFor i c goal f plan (EsArrive m q)
es_arrive_sound i c goal f plan m q w ok sought t k there premise is =
    let come = comes i plan m q sought.settled.valid there in
    let low = sent_until_least i c goal plan m w sought there.0 ok in
    let later = end_least_later i c (source_of i m) (lo_of f m) (round_of plan m) (t.lo m there.0) in
    rw is (omega (arith, come, low, later))

-- a message was ready, and was sent in a slot of the least duration or a longer one
pub es_message_sound : (i : Instance) (c : Choice) (goal : ℕ) (f : Known) (plan : Plan) (m q : ℕ) → IsInstance i → IsSought i c goal plan → AreTrueOf i plan f → IsSoundFor i c goal f plan (EsMessage m q)
es_message_sound i c goal f plan m q w sought t k there premise is =
    let come = comes i plan m q sought.settled.valid there in
    let ready = sought.settled.valid.ready m there.0 in
    let first = t.es (sender_of i m) (sender_is i m w there.0) in
    let long = sent_for_least i c goal plan m w sought there.0 in
    rw is (omega (arith, come, ready, first, long))
