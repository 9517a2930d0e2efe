-- Nothing is between: the end is the least, and a search with these deadlines cut to it tells which plan is the shortest.
use Rattle.std.proofs.Common.{◌≡◌, ◌⊎◌, ℕ, ◌≤◌, List, Option, Some, slice_index_or, arith, inl, inr, sym, subst, ◌∙◌}
use Rattle.std.proofs.lemmas.Bool.{cases_lt}
use Rattle.ttp_model.specs.declared.plan.Plan.{Plan}
use Rattle.ttp_model.specs.Instance.{Instance}
use Rattle.ttp_model.specs.Limits.{most_ticks}
use Rattle.ttp_model.specs.Rules.{IsInstance}
use Rattle.ttp_model.specs.Plans.{IsValid}
use Rattle.ttp_model.specs.Delays.{delay, HasNoPlan}
use Rattle.certificate.specs.Cert.{Cert}
use Rattle.planner.specs.found.FoundPlan.{FoundPlan}
use Rattle.planner.specs.outcome.Options.{Options}
use Rattle.planner.specs.outcome.Outcome.TheVariants as outcome
use Rattle.planner.specs.outcome.Why.{Why}
use Rattle.planner.specs.Answers.{IsOutcome, Shows, stated}
use Rattle.ttp_model.specs.Answers.{IsBestPlan}
use Rattle.instance_variants.specs.Cut.{CanEndBy, cut}
use Rattle.instance_variants.specs.Ends.{AreThere, IsLeastEnd, IsLowerEnd, last_end}
use Rattle.instance_variants.proofs.CutPlans.{end_by_of_cut, valid_cut, valid_of_cut}
use Rattle.instance_variants.proofs.CutRules.{cut_at_most}
use Rattle.instance_variants.proofs.CutEnds.{delay_kept, each_by_last, last_by_each, least_by}
use Rattle.plan_questions.specs.EndAnswers.{EndsAt, IsBehindChains, IsBetween, IsLeast, IsNoLonger, IsReached, IsUnknown, end_cutting}
use Rattle.plan_questions.specs.Searches.{IsLeftOpen, IsShown}
use Rattle.plan_questions.specs.Cuts.{IsApart, IsNoneBelow, IsPlanAt}

module _ (i : Instance) (ps : List ℕ) (are : AreThere i ps) where
  -- what a valid plan does leaves room for each of them
  pub room_of_plan : (plan : Plan) (end : ℕ) → EndsAt i ps plan end → CanEndBy i ps end
  room_of_plan plan end ends k e h =
      omega (arith, ends.valid.released (slice_index_or ps k e) (are k e h), each_by_last i ps plan end (omega (arith, ends.at)) k e h)

  -- what is known of the cut instance is so of these processes
  pub ends_of_cut : (low end : ℕ) (plan : Plan) → IsPlanAt (end_cutting i ps low) end plan → EndsAt i ps plan end
  ends_of_cut low end plan is = record { valid = valid_of_cut i ps end plan is.valid; at = is.measured }

  pub lower_of_cut : (low end : ℕ) → IsNoneBelow (end_cutting i ps low) end → IsLowerEnd i ps end
  lower_of_cut low end none plan v = elim (cases_lt (last_end i plan ps) end) [
    | inl before ↦
        absurd (none (last_end i plan ps) before plan (valid_cut i ps (last_end i plan ps) plan v (each_by_last i ps plan (last_end i plan ps) (omega arith))))
    | inr behind ↦ behind
  ]

  pub end_apart : (options : Options) (low least end : ℕ) (plan : Plan) (cert : Cert) → IsBehindChains i ps low
      → IsApart (end_cutting i ps low) options least end plan cert → IsBetween i ps options least end plan cert
  end_apart options low least end plan cert chains is = record {
    lower = lower_of_cut low least is.lower;
    chains = λ k e h time chain. omega (arith, chains k e h time chain, is.least);
    apart = is.apart;
    plan_ends = ends_of_cut low end plan is.plan_at;
    answer = is.answer;
  }

  module _ (w : IsInstance i) (options : Options) (cert : Cert) where
    pub end_unknown : (low : ℕ) → IsLowerEnd i ps low → IsBehindChains i ps low → IsLeftOpen (cut i ps most_ticks) options cert
        → IsUnknown i ps options low cert
    end_unknown low lower chains left = record {
      lower = lower;
      chains = chains;
      answer = subst (λ (j : Instance). IsLeftOpen j options cert) (cut_at_most i ps w) left;
    }

    pub end_never : IsShown (cut i ps most_ticks) options cert → IsShown i options cert
    end_never is = subst (λ (j : Instance). IsShown j options cert) (cut_at_most i ps w) is

module _ (i : Instance) (ps : List ℕ) (are : AreThere i ps) (end : ℕ) (known : Plan) (ends : EndsAt i ps known end) (lower : IsLowerEnd i ps end) where
  pub least : IsLeastEnd i ps end
  least = record { plan = known; valid = ends.valid; reached = ends.at; bound = lower }

  -- the instance with these deadlines cut has a plan
  pub some_plan : ¬ HasNoPlan (cut i ps end)
  some_plan none = none known
      (valid_cut i ps end known ends.valid (each_by_last i ps known end (omega (arith, ends.at))))

  -- and each of its plans does it
  pub ends_at : (plan : Plan) → IsValid (cut i ps end) plan → EndsAt i ps plan end
  ends_at plan v =
      let valid = valid_of_cut i ps end plan v in
      let by = last_by_each i ps plan end (end_by_of_cut i ps end plan are v) in
      record { valid = valid; at = omega (arith, by, lower plan valid) }

  module _ (options : Options) (cert : Cert) where
    pub is_least : (plan : Plan) (ticks : ℕ) → IsOutcome (cut i ps end) options 0 (outcome.Optimal plan ticks cert)
        → Shows (cut i ps end) (outcome.Optimal plan ticks cert) → IsLeast i ps options end plan cert
    is_least plan ticks answer shows =
        let same : ticks ≡ delay i plan = shows.1 ∙ delay_kept i ps end plan in
        record {
          least = least;
          plan_ends = ends_at plan shows.0;
          delay_is = rw (← same) (least_by i ps end are ticks shows.2);
          answer = rw (← same) answer;
        }

    pub is_reached : (why : Why) (low : ℕ) (best : Option FoundPlan) (plan : Plan)
        → IsOutcome (cut i ps end) options 0 (outcome.Stopped why low best cert) → EndsAt i ps plan end
        → IsNoLonger (delay i plan) best → IsReached i ps options end plan cert
    is_reached why low best plan answer ends shortest =
        record { least = least; plan_ends = ends; why = why; low = low; best = best; answer = answer; shortest = shortest }

    -- of two plans that do it one that is no longer than the other
    pub is_reached_by : (why : Why) (low : ℕ) (other : FoundPlan) (plan : Plan)
        → IsOutcome (cut i ps end) options 0 (outcome.Stopped why low (Some other) cert) → IsBestPlan (cut i ps end) (stated (Some other))
        → (plan ≡ known) ⊎ (plan ≡ other.plan) → delay i plan ≤ delay i other.plan → IsReached i ps options end plan cert
    is_reached_by why low other plan answer best one shorter =
        let ends : EndsAt i ps plan end = elim one [
          | inl same ↦ subst (λ (p : Plan). EndsAt i ps p end) (sym same) ends
          | inr same ↦ subst (λ (p : Plan). EndsAt i ps p end) (sym same) (ends_at other.plan best.0)
        ] in
        is_reached why low (Some other) plan answer ends (omega (arith, shorter, best.1, delay_kept i ps end other.plan))
