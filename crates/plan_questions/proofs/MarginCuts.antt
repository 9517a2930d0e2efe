-- An instance is cut by what processes lack of the most for which there is room; what is told of the least lack.
use Rattle.std.proofs.Common.{◌≡◌, ℕ, ◌+◌, ◌-◌, ◌/◌, ◌<◌, ◌≤◌, List, length, None, Some, arith, inl, inr, subst}
use Rattle.std.proofs.lemmas.Bool.{cases_lt}
use Rattle.ttp_model.specs.declared.plan.Plan.{Plan}
use Rattle.ttp_model.specs.Lists.{IsFirstFailure}
use Rattle.ttp_model.specs.Instance.{Instance}
use Rattle.ttp_model.specs.Rules.{IsInstance}
use Rattle.ttp_model.specs.Plans.{IsValid}
use Rattle.ttp_model.specs.Delays.{HasNoPlan}
use Rattle.certificate.specs.Cert.{Cert}
use Rattle.certificate.specs.Versions.{Allows}
use Rattle.planner.specs.outcome.Options.{Options}
use Rattle.planner.specs.outcome.Outcome.TheVariants as outcome
use Rattle.planner.proofs.AnswerVersions.{answer_allows}
use Rattle.instance_variants.specs.declared.scale.Scale.{Scale}
use Rattle.instance_variants.specs.Ends.{AreThere}
use Rattle.instance_variants.specs.Longer.{HasRoom, allowed_of, longer, longer_by, own_margin, window_margin}
use Rattle.instance_variants.specs.Slack.{slack}
use Rattle.instance_variants.proofs.Least.{least-le-top}
use Rattle.instance_variants.proofs.LongerRuns.{allowed_own, lacks_room, longer_lawful, none_beyond, own_allows}
use Rattle.instance_variants.proofs.ShorterRuns.{own_valid}
use Rattle.plan_questions.specs.Searches.{IsLeftOpen, IsShown}
use Rattle.plan_questions.specs.Cuts.{IsApart, IsCutting, IsExact, IsPlanAt, IsShownBefore, middle}
use Rattle.plan_questions.specs.MarginAnswers.{IsBetween, IsGreatest, IsUnknown, IsWindow, margin_cutting}

-- the certificate of an answer has a text
pub margin_allows : (i : Instance) (ps : List ℕ) (scale : Scale) (options : Options) (x : ℕ) (plan : Plan) (cert : Cert)
    → IsGreatest i ps scale options x plan cert → Allows cert.version cert.tree
margin_allows i ps scale options x plan cert is = answer_allows (longer i ps scale (x + 1)) options 0 (outcome.Infeasible cert) is.lawful is.shown.answered

module _ (i : Instance) (ps : List ℕ) (scale : Scale) where
  -- a plan that is valid where they run longer is valid as long as they run
  pub valid_as_is : (plan : Plan) (x : ℕ) → IsValid (longer i ps scale x) plan → IsValid i plan
  valid_as_is plan x v = own_valid i plan (longer_by i ps scale x) v

  own-le : (plan : Plan) (most : ℕ) → own_margin i ps scale plan most ≤ most
  own-le plan most = least-le-top (allowed_of i ps scale (slack i plan) most) most (length i.processes)

  module _ (w : IsInstance i) (most : ℕ) (window : most ≡ window_margin i ps scale) where
    lawful : (n : ℕ) → IsInstance (longer i ps scale (most - n))
    lawful n = longer_lawful i ps scale w (most - n) (omega (arith, window))

    pub margin_cuts : IsCutting (margin_cutting i ps scale most)
    margin_cuts = record {
      rules = λ n le. lawful n;
      most_rules = lawful most;
      within = λ plan n v. omega (arith, own_allows i ps scale w plan (valid_as_is plan (most - n) v) most (most - n) (omega arith) v);
      moves = λ plan n m v le. allowed_own i ps scale w plan (valid_as_is plan (most - n) v) most (most - m) (omega (arith, le));
      lower = λ n below. absurd (omega (arith, below));
    }

    -- a plan with its own lack
    module _ (number : ℕ) (plan : Plan) (at : IsPlanAt (margin_cutting i ps scale most) number plan) where
      lack : most - own_margin i ps scale plan most ≡ number
      lack = at.measured

      pub lack-le-most : number ≤ most
      lack-le-most = omega (arith, lack)

      as_is : IsValid i plan
      as_is = valid_as_is plan (most - number) at.valid

      -- has no more than that
      no_more : 0 < number → ¬ IsValid (longer i ps scale (most - number + 1)) plan
      no_more some v =
          let more = own_allows i ps scale w plan as_is most (most - number + 1) (omega (arith, some, lack-le-most)) v in
          absurd (omega (arith, more, lack, some, own-le plan most))

    module _ (options : Options) where
      pub margin_greatest : (number : ℕ) (plan : Plan) (cert : Cert) → IsExact (margin_cutting i ps scale most) options number plan (Some cert)
          → IsGreatest i ps scale options (most - number) plan cert
      margin_greatest number plan cert is =
          let one_less : IsShownBefore (margin_cutting i ps scale most) options number cert = is.shown in
          let next : most - one_less.before ≡ most - number + 1 = omega (arith, one_less.next, lack-le-most number plan is.plan_at) in
          let before : IsShown (longer i ps scale (most - one_less.before)) options cert = one_less.shown in
          let shown : IsShown (longer i ps scale (most - number + 1)) options cert = rw next at before in
          record {
            greatest = record { plan = plan; valid = is.plan_at.valid; none = shown.none };
            own = record { valid = as_is number plan is.plan_at; stays = is.plan_at.valid; no_more = shown.none plan };
            lawful = rw next at (lawful one_less.before);
            shown = shown;
          }

      -- where there is room for no more
      module _ (are : AreThere i ps) (some : 1 ≤ length ps) where
        beyond : (x : ℕ) → most < x → HasNoPlan (longer i ps scale x)
        beyond x above = none_beyond i ps scale w x are some (omega (arith, window, above))

        pub lacks : ¬ ((p : ℕ) → p < length i.processes → HasRoom i ps scale (most + 1) p)
        lacks = lacks_room i ps scale w (most + 1) are some (omega (arith, window))

        pub margin_window : (number process : ℕ) (plan : Plan) → IsExact (margin_cutting i ps scale most) options number plan None
            → IsFirstFailure (length i.processes) (HasRoom i ps scale (most + 1)) process → IsWindow i ps scale most process plan
        margin_window number process plan is full =
            let least : number ≡ 0 = is.shown in
            let whole : most - number ≡ most = omega (arith, least) in
            let with_all : IsValid (longer i ps scale (most - number)) plan = is.plan_at.valid in
            let valid : IsValid (longer i ps scale most) plan = rw whole at with_all in
            let none : HasNoPlan (longer i ps scale (most + 1)) = beyond (most + 1) (omega arith) in
            record {
              greatest = record { plan = plan; valid = valid; none = none };
              own = record { valid = valid_as_is plan most valid; stays = valid; no_more = none plan };
              full = full;
            }

        pub margin_apart : (low high : ℕ) (plan : Plan) (cert : Cert) → IsApart (margin_cutting i ps scale most) options low high plan cert
            → IsBetween i ps scale options (most - high) (most - low) plan
        margin_apart low high plan cert is =
            let half_way : most - middle low high ≡ (most - low) - ((most - low) - (most - high)) / 2 = omega (arith, is.apart, lack-le-most high plan is.plan_at) in
            let before : IsLeftOpen (longer i ps scale (most - middle low high)) options cert = is.answer in
            record {
              apart = omega (arith, is.apart, lack-le-most high plan is.plan_at);
              own = record {
                valid = as_is high plan is.plan_at;
                stays = is.plan_at.valid;
                no_more = no_more high plan is.plan_at (omega (arith, is.apart));
              };
              none = λ x above. elim (cases_lt most x) [
                | inl past ↦ beyond x past
                | inr inside ↦
                    (let same : most - (most - x) ≡ x = omega (arith, inside) in
                    subst (λ (y : ℕ). HasNoPlan (longer i ps scale y)) same (is.lower (most - x) (omega (arith, above, inside))))
              ];
              stopped = record { cert = cert; left = subst (λ (x : ℕ). IsLeftOpen (longer i ps scale x) options cert) half_way before };
            }

        pub margin_unknown : (cert : Cert) → IsLeftOpen (longer i ps scale (most - most)) options cert → IsUnknown i ps scale options most
        margin_unknown cert left =
            let nothing : most - most ≡ 0 = omega arith in
            record { none = beyond; stopped = record { cert = cert; left = rw nothing at left } }

      pub margin_never : (cert : Cert) → IsShown (longer i ps scale (most - most)) options cert → HasNoPlan i
      margin_never cert is plan v = is.none plan (allowed_own i ps scale w plan v most (most - most) (omega arith))
