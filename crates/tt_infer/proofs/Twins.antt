-- Of twins the first goes first in a settled plan: else they exchange their starts.
use Rattle.std.proofs.Common.{ℕ, ◌<◌, arith, inl, inr, refl}
use Rattle.ttp_model.specs.declared.plan.Plan.{Plan}
use Rattle.ttp_model.specs.declared.step.Step.TheVariants.{OrdTwin}
use Rattle.ttp_model.specs.declared.error.Place.TheVariants.{AtProcess}
use Rattle.ttp_model.specs.Instance.{Instance}
use Rattle.ttp_model.specs.Rules.{IsInstance}
use Rattle.ttp_model.specs.Twins.{AreTwins}
use Rattle.ttp_model.specs.Plans.{EndsBefore}
use Rattle.ttp_model.specs.Moves.{IsSettled, SwapsTwins, swapped}
use Rattle.ttp_model.proofs.ValidPlans.{two_apart}
use Rattle.tt_moves.proofs.ExchangedTwins.{swapped_valid}
use Rattle.tt_choice.specs.Choice.{Choice}
use Rattle.sought_plans.specs.Known.{Known, IsSought}
use Rattle.tt_infer.proofs.Soundness.{IsSoundFor}

twins_in_order : (i : Instance) (plan : Plan) (p q : ℕ) → IsInstance i → IsSettled i plan → AreTwins i p q → p < q → EndsBefore i plan p q
twins_in_order i plan p q w settled twins lt = elim (two_apart i plan p q settled.valid twins.p_is twins.q_is twins.two twins.node) [
  | inl first ↦ first
  | inr second ↦
      let long = (w.ranges (AtProcess q) twins.q_is).wcet_least in
      let move : SwapsTwins i plan (swapped plan p q) = record { first = p; second = q; twins = twins; in_order = lt; later = omega (arith, second, long); moved_is = refl } in
      absurd (settled.rests (swapped plan p q) (inl (inr (inl move))) (swapped_valid i plan p q w settled.valid twins))
]

pub ord_twin_sound : (i : Instance) (c : Choice) (goal : ℕ) (f : Known) (plan : Plan) (p q : ℕ) → IsInstance i → IsSought i c goal plan → IsSoundFor i c goal f plan (OrdTwin p q)
ord_twin_sound i c goal f plan p q w sought k there premise is =
    rw is (twins_in_order i plan p q w sought.settled premise.twins premise.in_order)
