-- When the last of some processes ends, in plans of an instance and of the cut one.
use Rattle.std.proofs.Common.{◌≡◌, ℕ, ◌+◌, ◌≤◌, List, [], ◌∷◌, length, map, fold, max, All, arith, inl, inr, refl, sym, ap, ◌∙◌}
use Rattle.std.specs.List.{range_with_len}
use Rattle.std.proofs.lemmas.Bool.{cases_lt}
use Rattle.std.proofs.lemmas.List.Elements.{All-cons, All-head, All-nil, All-tail}
use Rattle.ttp_model.specs.declared.plan.Plan.{Plan}
use Rattle.ttp_model.specs.Lists.{greatest}
use Rattle.ttp_model.specs.Instance.{Instance}
use Rattle.ttp_model.specs.Plans.{end_of}
use Rattle.ttp_model.specs.Delays.{HasNoPlan, IsLeastDelay, IsLowerBound, delay}
use Rattle.instance_variants.specs.Cut.{cut}
use Rattle.instance_variants.specs.Ends.{AreThere, EndBy, IsLeastDelayBy, IsLowerBoundBy, IsLowerEnd, last_end}
use Rattle.instance_variants.proofs.CutPlans.{end_by_of_cut, end_kept, valid_cut, valid_of_cut}
use Rattle.instance_variants.proofs.CutProcesses.{differ}

-- what is read of each number is the same
map_alike : (f g : ℕ → ℕ) → ((n : ℕ) → f n ≡ g n) → (ns : List ℕ) → map f ns ≡ map g ns
map_alike f g same [] = refl
map_alike f g same (n ∷ ns) = ap (λ (m : ℕ). m ∷ map f ns) (same n) ∙ ap (λ (ms : List ℕ). g n ∷ ms) (map_alike f g same ns)

-- the greatest of some numbers and of what is read of a list is at most d exactly where each is
module _ (read : ℕ → ℕ) (d : ℕ) where
  pub each_of_greatest : (most : ℕ) (ps : List ℕ) → fold max most (map read ps) ≤ d → (most ≤ d) × All (λ p. read p ≤ d) ps
  each_of_greatest most [] h = (h, All-nil (λ p. read p ≤ d))
  each_of_greatest most (p ∷ ps) h =
      let rest = each_of_greatest (max most (read p)) ps h in
      (omega (arith, rest.0), All-cons (λ q. read q ≤ d) p ps (omega (arith, rest.0)) rest.1)

  pub greatest_of_each : (most : ℕ) (ps : List ℕ) → most ≤ d → All (λ p. read p ≤ d) ps → fold max most (map read ps) ≤ d
  greatest_of_each most [] least each = least
  greatest_of_each most (p ∷ ps) least each =
      let here = All-head (λ q. read q ≤ d) p ps each in
      greatest_of_each (max most (read p)) ps (omega (arith, here)) (All-tail (λ q. read q ≤ d) p ps each)

module _ (i : Instance) (ps : List ℕ) where
  module _ (plan : Plan) (d : ℕ) where
    pub each_by_last : last_end i plan ps ≤ d → EndBy i ps plan d
    each_by_last last = (each_of_greatest (end_of i plan) d 0 ps last).1

    pub last_by_each : EndBy i ps plan d → last_end i plan ps ≤ d
    last_by_each each = greatest_of_each (end_of i plan) d 0 ps (omega arith) each

  module _ (d : ℕ) where
    -- ends are the same
    pub delay_kept : (plan : Plan) → delay (cut i ps d) plan ≡ delay i plan
    delay_kept plan =
        ap (λ (n : ℕ). greatest (map (end_of (cut i ps d) plan) (range_with_len 0 n))) (differ i ps d).all
        ∙ ap greatest (map_alike (end_of (cut i ps d) plan) (end_of i plan) (end_kept i ps d plan) (range_with_len 0 (length i.processes)))

    module _ (are : AreThere i ps) where
      pub later_end : HasNoPlan (cut i ps d) → IsLowerEnd i ps (d + 1)
      later_end none plan v = elim (cases_lt d (last_end i plan ps)) [
        | inl later ↦ omega (arith, later)
        | inr by ↦ absurd (none plan (valid_cut i ps d plan v (each_by_last plan d by)))
      ]

      pub bound_by : (low : ℕ) → IsLowerBound (cut i ps d) low → IsLowerBoundBy i ps d low
      bound_by low bound plan v by = omega (arith, bound plan (valid_cut i ps d plan v by), delay_kept plan)

      pub least_by : (least : ℕ) → IsLeastDelay (cut i ps d) least → IsLeastDelayBy i ps d least
      least_by least is = record {
        plan = is.plan;
        valid = valid_of_cut i ps d is.plan is.valid;
        in_time = end_by_of_cut i ps d is.plan are is.valid;
        reached = sym (delay_kept is.plan) ∙ is.reached;
        bound = bound_by least is.bound;
      }
