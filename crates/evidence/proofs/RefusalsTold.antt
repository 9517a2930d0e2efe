-- What the reason of each of these refusals tells.
use Rattle.std.proofs.Common.{◌≡◌, ◌≢◌, ℕ, zero, suc, ◌+◌, ◌<◌, inl, inr, List, [], ◌∷◌, Some, length, slice_index, arith, ap, refl, subst, sym, ◌∙◌}
use Rattle.ttp_model.specs.declared.error.ModelError.{ModelError}
use Rattle.ttp_model.specs.declared.error.ModelError.TheVariants as model
use Rattle.ttp_model.specs.declared.error.Place.TheVariants.{AtMessage, AtNode}
use Rattle.ttp_model.specs.Instance.{Instance, message_at}
use Rattle.ttp_model.specs.Lists.{IsFirstFailure}
use Rattle.ttp_model.specs.Names.{process_name}
use Rattle.sentences.specs.Lists.{AreTold}
use Rattle.instance_text.specs.declared.error.Key.TheVariants.{Bytes}
use Rattle.instance_reasons.specs.declared.circles.Circle.{Circle}
use Rattle.instance_reasons.specs.declared.circles.CircleStep.{CircleStep}
use Rattle.instance_reasons.specs.declared.joins.ReceiverTwice.{ReceiverTwice}
use Rattle.instance_reasons.specs.declared.ranges.Outside.{Outside}
use Rattle.instance_reasons.specs.declared.ranges.OutsideRange.{OutsideRange}
use Rattle.instance_reasons.specs.declared.rules.RuleReason.{RuleReason}
use Rattle.instance_reasons.specs.declared.rules.RuleReason.TheVariants as reason
use Rattle.instance_reasons.specs.declared.shared.SharedName.{SharedName}
use Rattle.instance_reasons.specs.declared.times.ShortLead.{ShortLead}
use Rattle.instance_reasons.specs.Circles.{IsCircleStep}
use Rattle.instance_reasons.specs.Joins.{IsNewAt}
use Rattle.instance_reasons.specs.Rules.{IsRuleReason}

module _ (i : Instance) (told : RuleReason) where
  pub lead_told : i.cluster.lead ≡ 5 → i.cluster.precision ≡ 3 → IsRuleReason i model.ShortLead told → (r : ShortLead) → told ≡ reason.ShortLead r
      → (r.twice ≡ 6) × (r.by ≡ 1)
  lead_told lead precision is r same =
      let t = subst (λ (x : RuleReason). IsRuleReason i model.ShortLead x) same is in (
        omega (arith, t.twice_is, t.precision_is, precision),
        omega (arith, t.twice_is, t.precision_is, precision, t.lead_is, lead, t.lacking),
      )

  pub both_told : IsRuleReason i (model.NameRepeated (AtNode 1)) told → (r : SharedName) → told ≡ reason.SharedName r → (r.first ≡ 0) × (r.second ≡ 1)
  both_told is r same =
      let t = subst (λ (x : RuleReason). IsRuleReason i (model.NameRepeated (AtNode 1)) x) same is in
      (omega (arith, t.first_is.within), t.second_is)

  abbrev no_bytes : Outside
  no_bytes = record { key = Bytes; value = 0; least = 1; most = 1000 }

  pub little_told : (message_at i 0).bytes ≡ 0 → IsRuleReason i (model.OutOfRange (AtMessage 0)) told → (r : OutsideRange) → told ≡ reason.OutsideRange r
      → (r.number.value ≡ 0) × (r.number.least ≡ 1) × (r.by ≡ 1)
  little_told bytes is r same =
      let t = subst (λ (x : RuleReason). IsRuleReason i (model.OutOfRange (AtMessage 0)) x) same is in
      let number : Some no_bytes ≡ Some r.number = rw bytes at t.number_is in
      let one : no_bytes ≡ r.number = cc in
      let value : r.number.value ≡ 0 = sym (ap (λ (x : Outside). x.value) one) in
      let least : r.number.least ≡ 1 = sym (ap (λ (x : Outside). x.least) one) in
      elim t.misses [
        | inl below ↦ (value, least, omega (arith, below, value, least))
        | inr past ↦ absurd (omega (arith, past, value, t.some))
      ]

  pub first_told : (p q r : ℕ) (error : ModelError) → error ≡ model.Cycle (p ∷ q ∷ r ∷ []) → IsRuleReason i error told
      → (x : Circle) (step : CircleStep) (others : List CircleStep) → told ≡ reason.Circle x → x.steps.items ≡ step ∷ others
      → (step.process.now ≡ process_name i p) × (step.other.now ≡ process_name i r)
  first_told p q r error is_cycle is x step others same begins =
      let ps = p ∷ q ∷ r ∷ [] in
      let t = subst (λ (x : RuleReason). IsRuleReason i (model.Cycle ps) x) same (subst (λ (e : ModelError). IsRuleReason i e told) is_cycle is) in
      let steps = subst (λ (steps : List CircleStep). AreTold (IsCircleStep i ps) (0 ∷ 1 ∷ 2 ∷ []) steps) begins t.steps_are in
      (steps.0.process_is, steps.0.other_is)

  -- the second of three receivers, which the third is too
  third : (xs : List ℕ) (place : ℕ) → xs ≡ 5 ∷ 7 ∷ 7 ∷ [] → IsFirstFailure (length xs) (IsNewAt xs) place → slice_index xs place ≡ 7
  third xs zero is first = absurd (first.fails (λ j lt. absurd (omega (arith, lt))))
  third xs (suc zero) is first = rw is refl
  third xs (suc (suc zero)) is first = rw is refl
  third xs (suc (suc (suc k))) is first = absurd (omega (arith, first.within, ap length is))

  pub second_told : (message_at i 0).receivers ≡ 5 ∷ 7 ∷ 7 ∷ [] → IsRuleReason i (model.ReceiverTwice 0) told → (r : ReceiverTwice)
      → told ≡ reason.ReceiverTwice r → r.receiver.now ≡ process_name i 7
  second_told receivers is r same =
      let t = subst (λ (x : RuleReason). IsRuleReason i (model.ReceiverTwice 0) x) same is in
      t.receiver_is ∙ ap (process_name i) (third (message_at i 0).receivers t.place receivers t.first)
