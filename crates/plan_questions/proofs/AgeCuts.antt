-- Instances are cut by the age that a chain may have; what is told of the least one.
use Rattle.std.proofs.Common.{◌≡◌, ◌∙◌, ℕ, ◌-◌, ◌<◌, ◌≤◌, length, min, Option, Some, arith, inl, inr, ap, subst}
use Rattle.std.proofs.lemmas.Bool.{cases_lt}
use Rattle.ttp_model.specs.declared.plan.Plan.{Plan}
use Rattle.ttp_model.specs.Lists.{EachBelow, IsFirstFailure}
use Rattle.ttp_model.specs.Instance.{Instance}
use Rattle.ttp_model.specs.Rules.{CanEndInTime, IsInstance}
use Rattle.ttp_model.specs.Plans.{IsValid}
use Rattle.ttp_model.specs.Delays.{HasNoPlan}
use Rattle.certificate.specs.Cert.{Cert}
use Rattle.certificate.specs.Versions.{Allows}
use Rattle.planner.specs.outcome.Options.{Options}
use Rattle.planner.specs.outcome.Outcome.TheVariants as outcome
use Rattle.plan_questions.proofs.AnswerVersions.{answer_allows}
use Rattle.rates_model.specs.declared.parts.Chain.{Chain}
use Rattle.rates_model.specs.Rates.{Rates, chain_at}
use Rattle.rates_model.specs.Rules.{IsRates}
use Rattle.endless_schedules.specs.Unrolled.{unrolled}
use Rattle.endless_schedules.specs.Ages.{IsAge}
use Rattle.endless_schedules.specs.Bounds.{IsLeastAge, IsLowerAge}
use Rattle.plan_questions.specs.Cuts.{IsApart, IsCutting, IsExact, IsNoneBelow, IsPlanAt, IsShownBefore, middle}
use Rattle.plan_questions.specs.Searches.{IsLeftOpen, IsShown}
use Rattle.endless_schedules.specs.declared.aging.Aging.{Aging}
use Rattle.endless_schedules.specs.Aging.{IsAging, aged, own_age, window_age}
use Rattle.plan_questions.specs.AgeHalving.{IsAsked, TakeTicks, age_cutting}
use Rattle.plan_questions.specs.LeastAges.{HasOwnAge, IsBetween, IsShownLeast, IsUnknown, IsWindow}
use Rattle.endless_schedules.proofs.OwnAges.{of_aged, own-le_bound, own_instance, own_is, same_age, to_aged}
use Rattle.endless_schedules.proofs.AgeWindows.{lacks_room, rules_aged, window-le_own}

-- the certificate of an answer has a text
pub age_allows : (rho : Rates) (x : ℕ) (options : Options) (age : ℕ) (plan : Plan) (cert : Cert) → IsShownLeast rho x options age plan cert
    → Allows cert.version cert.tree
age_allows rho x options age plan cert is = answer_allows (aged rho x (age - 1)) options 0 (outcome.Infeasible cert) is.lawful is.shown.answered

-- what is known of a chain is enough
pub asked : (a : Aging) (low most : ℕ) → IsAging a → IsRates a.rates.now → IsInstance a.base.now → low ≡ window_age a.rates.now a.chain
    → most ≡ (chain_at a.rates.now a.chain).age → low ≤ (chain_at a.rates.now a.chain).age → TakeTicks → IsAsked a.rates.now a.chain low most
asked a low most is rules base window bound fits ticks = record {
  rules = rules;
  instance = subst IsInstance is.base base;
  there = is.there;
  window = window;
  bound = bound;
  fits = omega (arith, fits, bound);
  ticks = ticks;
}

-- a plan that is valid with some age, or with the bound where that is less, is valid, and the age of the chain in it is no more
pub measured : (a : Aging) (most number : ℕ) (plan : Plan) → IsAging a → IsRates a.rates.now → IsInstance a.base.now
    → most ≡ (chain_at a.rates.now a.chain).age → IsValid (aged a.rates.now a.chain (min number most)) plan
    → IsValid (unrolled a.rates.now) plan × (own_age a.rates.now a.chain plan ≤ min number most)
measured a most number plan is rules base bound v =
    of_aged a.rates.now a.chain rules is.there (subst IsInstance is.base base) plan (min number most) (omega (arith, bound)) v

-- what is told as the age of the chain is it
pub is_own : (rho : Rates) (x : ℕ) → IsRates rho → x < length rho.chains → (plan : Plan) (chain : Chain) (age : ℕ) → chain ≡ chain_at rho x
    → IsAge rho plan chain age → age ≡ own_age rho x plan
is_own rho x rules inside plan chain age same is = same_age rho x rules inside plan age (subst (λ (it : Chain). IsAge rho plan it age) same is)

module _ (rho : Rates) (x low most : ℕ) (q : IsAsked rho x low most) where
  within_bound : (age : ℕ) → min age most ≤ (chain_at rho x).age
  within_bound age = omega (arith, q.bound)

  lawful : (age : ℕ) → low ≤ age → IsInstance (aged rho x (min age most))
  lawful age le = rules_aged rho x q.rules q.instance q.there (min age most) (within_bound age) (omega (arith, le, q.window, q.fits))

  -- a plan that is valid with an age has it or less, and is valid
  of_age : (plan : Plan) (age : ℕ) → IsValid (aged rho x (min age most)) plan → IsValid (unrolled rho) plan × (own_age rho x plan ≤ min age most)
  of_age plan age v = of_aged rho x q.rules q.there q.instance plan (min age most) (within_bound age) v

  pub age_cuts : IsCutting (age_cutting rho x low most)
  age_cuts = record {
    rules = lawful;
    most_rules = lawful most q.fits;
    within = λ plan age v. let both = of_age plan age v in omega (arith, both.1);
    moves = λ plan a b v le.
        let both = of_age plan a v in
        to_aged rho x q.rules q.there q.instance plan (min b most) (within_bound b) both.0 (omega (arith, both.1, le));
    lower = λ age below plan v.
        let both = of_age plan age v in
        absurd (omega (arith, both.1, below, q.window, window-le_own rho x q.rules q.instance q.there plan both.0));
  }

  -- what is known of a plan that is measured
  has_age : (age : ℕ) (plan : Plan) → IsPlanAt (age_cutting rho x low most) age plan → HasOwnAge rho x age plan
  has_age age plan at = record {
    valid = (of_age plan age at.valid).0;
    own = subst (IsAge rho plan (chain_at rho x)) at.measured (own_is rho x q.rules q.there plan);
  }

  age-le_most : (age : ℕ) (plan : Plan) → IsPlanAt (age_cutting rho x low most) age plan → age ≤ most
  age-le_most age plan at = omega (arith, at.measured, q.bound, own-le_bound rho x q.rules q.there q.instance plan (has_age age plan at).valid)

  pub some_of_plan : (age : ℕ) (plan : Plan) → IsPlanAt (age_cutting rho x low most) age plan → 1 ≤ age
  some_of_plan age plan at = let has = has_age age plan at in q.ticks rho plan x age q.rules q.instance q.there has.valid has.own

  lower_is : (age : ℕ) → IsNoneBelow (age_cutting rho x low most) age → IsLowerAge rho x age
  lower_is age none plan own v is = elim (cases_lt own age) [
    | inl below ↦
        let same = same_age rho x q.rules q.there plan own is in
        let fitting = own-le_bound rho x q.rules q.there q.instance plan v in
        absurd (none own below plan (to_aged rho x q.rules q.there q.instance plan (min own most) (within_bound own) v (omega (arith, same, fitting, q.bound))))
    | inr above ↦ above
  ]

  least_is : (age : ℕ) (plan : Plan) → IsPlanAt (age_cutting rho x low most) age plan → IsNoneBelow (age_cutting rho x low most) age → IsLeastAge rho x age
  least_is age plan at none =
      let has = has_age age plan at in
      record { plan = plan; valid = has.valid; reached = has.own; bound = lower_is age none }

  -- the search with the bound is that of the cluster itself
  at_most : aged rho x (min most most) ≡ unrolled rho
  at_most =
      let is : min most most ≡ (chain_at rho x).age = omega (arith, q.bound) in
      ap (aged rho x) is ∙ own_instance rho x q.rules q.there

  module _ (options : Options) where
    pub age_shown : (age : ℕ) (plan : Plan) (cert : Cert) → IsExact (age_cutting rho x low most) options age plan (Some cert) → low < age
        → IsShownLeast rho x options age plan cert
    age_shown age plan cert is above =
        let one_less : IsShownBefore (age_cutting rho x low most) options age cert = is.shown in
        let fitting = age-le_most age plan is.plan_at in
        let before : min one_less.before most ≡ age - 1 = omega (arith, one_less.next, fitting) in
        record {
          least = least_is age plan is.plan_at is.lower;
          has = has_age age plan is.plan_at;
          some = omega (arith, above);
          within = omega (arith, fitting, q.bound);
          lawful = subst (λ (n : ℕ). IsInstance (aged rho x n)) before (lawful one_less.before (omega (arith, one_less.next, above)));
          shown = subst (λ (n : ℕ). IsShown (aged rho x n) options cert) before one_less.shown;
        }

    -- where the windows leave no less
    pub age_window : (age job : ℕ) (plan : Plan) (below : Option Cert) → IsExact (age_cutting rho x low most) options age plan below
        → IsFirstFailure (length (unrolled rho).processes) (CanEndInTime (aged rho x (age - 1))) job → IsWindow rho x age job plan
    age_window age job plan below is full = record {
      least = least_is age plan is.plan_at is.lower;
      has = has_age age plan is.plan_at;
      some = some_of_plan age plan is.plan_at;
      full = full;
    }

    pub one_less_lacks : (age : ℕ) (plan : Plan) (below : Option Cert) → IsExact (age_cutting rho x low most) options age plan below → age ≤ low
        → ¬ EachBelow (length (unrolled rho).processes) (CanEndInTime (aged rho x (age - 1)))
    one_less_lacks age plan below is le =
        let some = some_of_plan age plan is.plan_at in
        let fitting = age-le_most age plan is.plan_at in
        lacks_room rho x q.rules q.instance q.there (age - 1) (omega (arith, fitting, q.bound)) plan (omega (arith, some, le, q.window))

    pub age_between : (from high : ℕ) (plan : Plan) (cert : Cert) → IsApart (age_cutting rho x low most) options from high plan cert
        → IsBetween rho x options from high plan
    age_between from high plan cert is =
        let half_way : min (middle from high) most ≡ middle from high = omega (arith, is.apart, age-le_most high plan is.plan_at) in
        record {
          lower = lower_is from is.lower;
          window = omega (arith, is.least, q.window);
          apart = is.apart;
          has = has_age high plan is.plan_at;
          stopped = record { cert = cert; left = subst (λ (n : ℕ). IsLeftOpen (aged rho x n) options cert) half_way is.answer };
        }

    pub age_unknown : (cert : Cert) → IsLeftOpen (aged rho x (min most most)) options cert → IsUnknown rho x options low
    age_unknown cert left = record {
      lower = lower_is low age_cuts.lower;
      window = q.window;
      stopped = record { cert = cert; left = subst (λ (it : Instance). IsLeftOpen it options cert) at_most left };
    }

    pub age_never : (cert : Cert) → IsShown (aged rho x (min most most)) options cert → HasNoPlan (unrolled rho)
    age_never cert is = subst HasNoPlan at_most is.none
