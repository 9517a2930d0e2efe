-- The steps that tell in which rounds a message is sent are sound.
use Rattle.std.proofs.Common.{ℕ, arith}
use Rattle.ttp_model.specs.declared.plan.Plan.{Plan}
use Rattle.ttp_model.specs.declared.step.Step.TheVariants.{LoSend, HiArrive}
use Rattle.ttp_model.specs.Instance.{Instance}
use Rattle.ttp_model.specs.Rules.{IsInstance}
use Rattle.ttp_model.specs.Plans.{round_of}
use Rattle.tt_choice.specs.Choice.{Choice, IsChoice}
use Rattle.sought_plans.specs.Known.{Known, IsSought, AreTrueOf}
use Rattle.sought_plans.specs.Premises.{sender_of}
use Rattle.tt_infer.proofs.Soundness.{IsSoundFor}
use Rattle.tt_infer.proofs.Sending.{sender_is, receiver_is, comes, sent_from_most, sent_until_least}

-- the plan's round is one whose slot begins once the message is ready
pub lo_send_sound : (i : Instance) (c : Choice) (goal : ℕ) (f : Known) (plan : Plan) (m : ℕ) → IsInstance i → IsChoice i c → IsSought i c goal plan → AreTrueOf i plan f → IsSoundFor i c goal f plan (LoSend m)
lo_send_sound i c goal f plan m w ok sought t k there premise is =
    let ready = sought.settled.valid.ready m there in
    let first = t.es (sender_of i m) (sender_is i m w there) in
    let high = sent_from_most i c goal plan m w sought there ok in
    rw is.2 (is.1.least (round_of plan m) (omega (arith, ready, first, high)))

-- the plan's round is one in which the message reaches its receiver in time
pub hi_arrive_sound : (i : Instance) (c : Choice) (goal : ℕ) (f : Known) (plan : Plan) (m q : ℕ) → IsInstance i → IsChoice i c → IsSought i c goal plan → AreTrueOf i plan f → IsSoundFor i c goal f plan (HiArrive m q)
hi_arrive_sound i c goal f plan m q w ok sought t k there premise is =
    let come = comes i plan m q sought.settled.valid there in
    let low = sent_until_least i c goal plan m w sought there.0 ok in
    let last = t.le q (receiver_is i m q w there) in
    rw is.2 ((is.1 (round_of plan m)).1 (omega (arith, come, low, last)))
