-- What is learnt half way: of a plan that was found, and of none; and what is told in the end.
use Rattle.std.proofs.Common.{◌≡◌, ℕ, ◌+◌, ◌≤◌, None, Some, arith, inl, inr, refl}
use Rattle.std.proofs.lemmas.Bool.{cases_lt}
use Rattle.ttp_model.specs.declared.plan.Plan.{Plan}
use Rattle.ttp_model.specs.Rules.{IsInstance}
use Rattle.ttp_model.specs.Plans.{IsValid}
use Rattle.ttp_model.specs.Delays.{HasNoPlan}
use Rattle.certificate.specs.Cert.{Cert}
use Rattle.planner.specs.outcome.Options.{Options}
use Rattle.plan_questions.specs.declared.cuts.Known.{Known}
use Rattle.plan_questions.specs.Searches.{IsShown}
use Rattle.plan_questions.specs.Cuts.{Cutting, IsApart, IsCutting, IsExact, IsNoneBelow, IsPlanAt, middle}
use Rattle.plan_questions.specs.Halving.{IsKnown, IsOpenAt}

module _ (c : Cutting) (options : Options) (is : IsCutting c) where
  -- a plan is there by its own measure
  pub own_measure : (plan : Plan) (x : ℕ) → IsValid (c.at x) plan → IsPlanAt c (c.measure plan) plan
  own_measure plan x v = record { valid = is.moves plan x (c.measure plan) v (omega arith); measured = refl }

  -- there is none with x, and so none with fewer
  none_through : (x : ℕ) → HasNoPlan (c.at x) → IsNoneBelow c (x + 1)
  none_through x none y below plan v = none plan (is.moves plan y x v (omega (arith, is.within plan y v, below)))

  pub known_first : (plan : Plan) (x : ℕ) (known : Known) → IsValid (c.at x) plan → known.low ≡ c.least → known.below ≡ None
      → known.high ≡ c.measure plan → known.plan ≡ plan → IsKnown c options known
  known_first plan x known v low below high same = record {
    least = omega (arith, low);
    lower = rw low is.lower;
    shown = rw below low;
    plan_at = rw (high, same) (own_measure plan x v);
  }

  module _ (known : Known) (knows : IsKnown c options known) where
    pub low-le-high : known.low ≤ known.high
    low-le-high = elim (cases_lt known.high known.low) [
      | inl below ↦ absurd (knows.lower known.high below known.plan knows.plan_at.valid)
      | inr above ↦ above
    ]

    pub rules_half_way : IsInstance (c.at (middle known.low known.high))
    rules_half_way = is.rules (middle known.low known.high) (omega (arith, knows.least))

    -- a plan that is valid with x
    pub known_found : (x : ℕ) (new : Known) (plan : Plan) → IsValid (c.at x) plan → new.low ≡ known.low → new.below ≡ known.below
        → new.high ≡ c.measure plan → new.plan ≡ plan → IsKnown c options new × (new.high ≤ x)
    known_found x new plan v low below high same = (
      record {
        least = omega (arith, low, knows.least);
        lower = rw low knows.lower;
        shown = rw (low, below) knows.shown;
        plan_at = rw (high, same) (own_measure plan x v);
      },
      omega (arith, high, is.within plan x v),
    )

    -- there is none
    pub known_absent : (x : ℕ) (new : Known) (cert : Cert) → IsShown (c.at x) options cert → known.low ≤ x
        → new ≡ record known { low = x + 1; below = Some cert } → IsKnown c options new
    known_absent x new cert is_shown le made = rw made (record {
      least = omega (arith, le, knows.least);
      lower = none_through x is_shown.none;
      shown = record { before = x; next = refl; shown = is_shown };
      plan_at = knows.plan_at;
    })

-- nothing is between
pub exact : (c : Cutting) (options : Options) (known : Known) → IsKnown c options known → known.low ≡ known.high
    → IsExact c options known.high known.plan known.below
exact c options known knows met = record { plan_at = knows.plan_at; lower = rw met at knows.lower; shown = rw met at knows.shown }

-- something is, since a search was stopped
pub apart : (c : Cutting) (options : Options) (known : Known) (cert : Cert) → IsKnown c options known → IsOpenAt c options known cert
    → IsApart c options known.low known.high known.plan cert
apart c options known cert knows still = record {
  least = knows.least;
  lower = knows.lower;
  apart = still.apart;
  plan_at = knows.plan_at;
  answer = still.answer;
}
