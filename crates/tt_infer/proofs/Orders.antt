-- The step that tells which of two processes goes first is sound; and what goes ahead starts earlier.
use Rattle.std.proofs.Common.{ℕ, ◌<◌, length, arith, inl, inr, ap}
use Rattle.ttp_model.specs.declared.plan.Plan.{Plan}
use Rattle.ttp_model.specs.declared.step.Step.TheVariants.{OrdWindow}
use Rattle.ttp_model.specs.declared.error.Place.TheVariants.{AtProcess}
use Rattle.ttp_model.specs.Instance.{Instance}
use Rattle.ttp_model.specs.Rules.{IsInstance}
use Rattle.ttp_model.specs.Plans.{IsValid, start_of, end_of}
use Rattle.ttp_model.proofs.ValidPlans.{link_kept, two_apart}
use Rattle.tt_choice.specs.Choice.{Choice}
use Rattle.sought_plans.specs.Known.{Known, AreTrueOf}
use Rattle.sought_plans.specs.Premises.{IsAhead}
use Rattle.tt_infer.proofs.Soundness.{IsSoundFor}
use Rattle.tt_infer.proofs.Sending.{comes}

-- the second is known to end too late to go before the first
pub ord_window_sound : (i : Instance) (c : Choice) (goal : ℕ) (f : Known) (plan : Plan) (p q : ℕ) → IsValid i plan → AreTrueOf i plan f → IsSoundFor i c goal f plan (OrdWindow p q)
ord_window_sound i c goal f plan p q v t k there premise is =
    let low = t.es q there.second in
    let high = t.le p there.first in
    elim (two_apart i plan p q v there.first there.second there.two there.one_node) [
      | inl before ↦ rw is before
      | inr after ↦ absurd (omega (arith, after, low, high, premise))
    ]

-- what goes ahead starts strictly earlier
pub ahead_starts : (i : Instance) (plan : Plan) (f : Known) (p q : ℕ) → IsInstance i → IsValid i plan → AreTrueOf i plan f → p < length i.processes → IsAhead i f p q → start_of plan p < start_of plan q
ahead_starts i plan f p q w v t there is =
    let long = (w.ranges (AtProcess p) there).wcet_least in
    elim is [
      | inl known ↦ (let first = t.bef p q known in omega (arith, first, long))
      | inr leads ↦ elim leads [
        | inl link ↦ (let first = link_kept i plan p q v link in omega (arith, first, long))
        | inr message ↦
            let first = comes i plan message.message q v (message.is_there, message.receiver) in
            let ready = v.ready message.message message.is_there in
            omega (arith, first, ready, long, ap (end_of i plan) message.sender)
      ]
    ]
