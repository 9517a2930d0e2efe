-- An instance without a plan is cut by the number of ticks that all may end later; what is told of the least one.
use Rattle.std.proofs.Common.{◌≡◌, ℕ, Option, arith}
use Rattle.ttp_model.specs.declared.plan.Plan.{Plan}
use Rattle.ttp_model.specs.Limits.{most_ticks}
use Rattle.ttp_model.specs.Instance.{Instance}
use Rattle.ttp_model.specs.Rules.{IsInstance}
use Rattle.ttp_model.specs.Delays.{HasNoPlan}
use Rattle.certificate.specs.Cert.{Cert}
use Rattle.planner.specs.outcome.Options.{Options}
use Rattle.instance_variants.specs.Later.{later}
use Rattle.instance_variants.specs.Lateness.{IsLeastLateness}
use Rattle.instance_variants.proofs.LaterPlans.{late_within, none_ever, valid_late}
use Rattle.instance_variants.proofs.LaterRules.{rules_later, same_instance}
use Rattle.plan_questions.specs.Searches.{IsLeftOpen, IsShown}
use Rattle.plan_questions.specs.Cuts.{IsApart, IsCutting, IsExact}
use Rattle.plan_questions.specs.LateAnswers.{IsBetween, IsNoneBelow, IsUnknown, late_cutting}
use Rattle.ttp_model.specs.Plans.{IsValid}

module _ (i : Instance) where
  -- where nothing is put off there is none
  none_at_first : IsInstance i → HasNoPlan i → IsNoneBelow i 1
  none_at_first w none x below =
      let nothing : x ≡ 0 = omega (arith, below) in
      rw (nothing, same_instance i w) none

  pub late_cuts : IsInstance i → HasNoPlan i → IsCutting (late_cutting i)
  late_cuts w none = record {
    rules = λ x le. rules_later i w x;
    most_rules = rules_later i w most_ticks;
    within = λ plan x v. late_within i plan x v;
    moves = λ plan x y v enough. valid_late i plan x v y enough;
    lower = none_at_first w none;
  }

  module _ (options : Options) where
    pub late_exact : (x : ℕ) (plan : Plan) (below : Option Cert) → IsExact (late_cutting i) options x plan below
        → IsLeastLateness i x × IsValid (later i x) plan
    late_exact x plan below is = (record { plan = plan; valid = is.plan_at.valid; none_before = is.lower }, is.plan_at.valid)

    pub late_apart : (low high : ℕ) (plan : Plan) (cert : Cert) → IsApart (late_cutting i) options low high plan cert → IsBetween i options low high plan
    late_apart low high plan cert is = record {
      lower = is.lower;
      apart = is.apart;
      valid = is.plan_at.valid;
      stopped = record { cert = cert; left = is.answer };
    }

    pub late_unknown : (cert : Cert) → IsInstance i → HasNoPlan i → IsLeftOpen (later i most_ticks) options cert → IsUnknown i options 1
    late_unknown cert w none left = record { least = omega arith; lower = none_at_first w none; stopped = record { cert = cert; left = left } }

    pub never : (cert : Cert) → IsShown (later i most_ticks) options cert → (x : ℕ) → HasNoPlan (later i x)
    never cert is x = none_ever i x is.none
