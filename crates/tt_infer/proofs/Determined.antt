-- What a step gives, and so where steps lead, is determined.
use Rattle.std.proofs.Common.{IsFalse, Result, Ok, Err, refl, ◌≡◌, ℕ, ◌+◌, List, [], ◌∷◌, arith, inl, inr, ◌∙◌, sym, ap}
use Rattle.std.proofs.lemmas.Bool.{cases_order, both_ways}
use Rattle.std.proofs.Math.Nat.{le_antisymm}
use Rattle.ttp_model.specs.declared.step.Step.{Step}
use Rattle.ttp_model.specs.declared.step.Step.TheVariants.{LoSend, HiArrive, UsSettled}
use Rattle.ttp_model.specs.Instance.{Instance}
use Rattle.tt_choice.specs.Choice.{Choice}
use Rattle.sought_plans.specs.Known.{Known}
use Rattle.sought_plans.specs.Conclusions.{Conclusion, EndsUntil, SentFrom, SentBefore, sharpened}
use Rattle.sought_plans.specs.Premises.{IsFirstChance, AreChances, wcet_of}
use Rattle.sought_plans.specs.Dominance.{IsGreatestWait}
use Rattle.tt_infer.specs.Table.{rule, IsLawful}
use Rattle.tt_infer.specs.Leaves.{Lead}
use Rattle.tt_infer.specs.declared.fault.StepFault.{StepFault}
use Rattle.tt_infer.specs.declared.fault.StepFault.TheVariants.{NoSuchIndex, NoPremise, AlreadyClosed}
use Rattle.tt_infer.specs.Answers.{IsStepFault, Takes}

pub first_chance_is_one : (i : Instance) (c : Choice) (f : Known) (m r s : ℕ) → IsFirstChance i c f m r → IsFirstChance i c f m s → r ≡ s
first_chance_is_one i c f m r s one other = le_antisymm (one.least s other.late_enough) (other.least r one.late_enough)

pub chances_are_one : (i : Instance) (c : Choice) (f : Known) (m q r s : ℕ) → AreChances i c f m q r → AreChances i c f m q s → r ≡ s
chances_are_one i c f m q r s one other = elim (cases_order r s) [
  | inl is ↦ is
  | inr apart ↦ elim apart [
    | inl below ↦ absurd (let again = (one r).1 ((other r).0 below) in omega (arith, again))
    | inr above ↦ absurd (let again = (other s).1 ((one s).0 above) in omega (arith, again))
  ]
]

pub greatest_wait_is_one : (i : Instance) (c : Choice) (f : Known) (p time other : ℕ) → IsGreatestWait i c f p time → IsGreatestWait i c f p other → time ≡ other
greatest_wait_is_one i c f p time other one also = le_antisymm (one.least other also.wait) (also.least time one.wait)

pub concludes_one : (i : Instance) (c : Choice) (goal : ℕ) (f : Known) (step : Step) (j k : Conclusion) → (rule i c goal f step).concludes j → (rule i c goal f step).concludes k → j ≡ k
concludes_one i c goal f (LoSend m) j k one other = one.2 ∙ ap (SentFrom m) (first_chance_is_one i c f m one.0 other.0 one.1 other.1) ∙ sym other.2
concludes_one i c goal f (HiArrive m q) j k one other = one.2 ∙ ap (SentBefore m) (chances_are_one i c f m q one.0 other.0 one.1 other.1) ∙ sym other.2
concludes_one i c goal f (UsSettled p) j k one other = one.2 ∙ ap (λ time. EndsUntil p (wcet_of i p + time)) (greatest_wait_is_one i c f p one.0 other.0 one.1 other.1) ∙ sym other.2
concludes_one i c goal f step j k one other = one ∙ sym other

pub IsLawful-determined : (i : Instance) (c : Choice) (goal : ℕ) (f : Known) (step : Step) (g h : Known) → IsLawful i c goal f step g → IsLawful i c goal f step h → g ≡ h
IsLawful-determined i c goal f step g h one other =
    one.known ∙ ap (sharpened i f) (concludes_one i c goal f step one.conclusion other.conclusion one.concludes other.concludes) ∙ sym other.known

pub Lead-determined : (i : Instance) (c : Choice) (goal : ℕ) (f : Known) (steps : List Step) (g h : Known) → Lead i c goal f steps g → Lead i c goal f steps h → g ≡ h
Lead-determined i c goal f [] g h one other = one ∙ sym other
Lead-determined i c goal f (step ∷ steps) g h one other =
    let same = IsLawful-determined i c goal f step one.1.0 other.1.0 one.1.1 other.1.1 in
    Lead-determined i c goal other.1.0 steps g h (rw same at one.1.2) other.1.2

-- a fault tells that the step isn't lawful
pub fault-not_lawful : (i : Instance) (c : Choice) (goal : ℕ) (f : Known) (step : Step) (g : Known) (fault : StepFault) → IsStepFault i c goal f step fault → IsFalse f.closed → ¬ IsLawful i c goal f step g
fault-not_lawful i c goal f step g AlreadyClosed is left lawful = both_ways _ left is
fault-not_lawful i c goal f step g NoSuchIndex is left lawful = is.1 lawful.there
fault-not_lawful i c goal f step g NoPremise is left lawful = is.1.1 lawful.premise

one_fault : (i : Instance) (c : Choice) (goal : ℕ) (f : Known) (step : Step) (one other : StepFault) → IsStepFault i c goal f step one → IsStepFault i c goal f step other → one ≡ other
one_fault i c goal f step AlreadyClosed AlreadyClosed is also = refl
one_fault i c goal f step AlreadyClosed NoSuchIndex is also = absurd (both_ways _ also.0 is)
one_fault i c goal f step AlreadyClosed NoPremise is also = absurd (both_ways _ also.0 is)
one_fault i c goal f step NoSuchIndex AlreadyClosed is also = absurd (both_ways _ is.0 also)
one_fault i c goal f step NoSuchIndex NoSuchIndex is also = refl
one_fault i c goal f step NoSuchIndex NoPremise is also = absurd (is.1 also.1.0)
one_fault i c goal f step NoPremise AlreadyClosed is also = absurd (both_ways _ is.0 also)
one_fault i c goal f step NoPremise NoSuchIndex is also = absurd (also.1 is.1.0)
one_fault i c goal f step NoPremise NoPremise is also = refl

-- the answer to a step is determined, with what is known after it
pub Takes-determined : (i : Instance) (c : Choice) (goal : ℕ) (f : Known) (step : Step) (g h : Known) (one other : Result Unit StepFault) → Takes i c goal f step g one → Takes i c goal f step h other → (g ≡ h) × (one ≡ other)
Takes-determined i c goal f step g h (Ok done) (Ok finished) is also = (IsLawful-determined i c goal f step g h is.1 also.1, refl)
Takes-determined i c goal f step g h (Ok done) (Err fault) is also = absurd (fault-not_lawful i c goal f step g fault also.0 is.0 is.1)
Takes-determined i c goal f step g h (Err fault) (Ok done) is also = absurd (fault-not_lawful i c goal f step h fault is.0 also.0 also.1)
Takes-determined i c goal f step g h (Err fault) (Err other) is also = (is.1 ∙ sym also.1, ap Err (one_fault i c goal f step fault other is.0 also.0))
