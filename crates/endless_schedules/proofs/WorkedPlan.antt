-- The plan of the worked cluster is valid for its instance of one cycle.
use Rattle.std.proofs.Common.{◌≢◌, ℕ, zero, suc, ◌<◌, ◌≤◌, [], ◌∷◌, slice_index, lit<, lit≤, refl, arith, inl, inr}
use Rattle.std.proofs.lemmas.Bool.{false≢true}
use Rattle.std.proofs.lemmas.List.Elements.{Contains-get_or}
use Rattle.ttp_model.specs.Instance.{Instance}
use Rattle.ttp_model.specs.declared.plan.Plan.{Plan}
use Rattle.ttp_model.specs.Plans.{AreApart, EndsInTime, FitsFrame, HasArrivedAt, HasArrivedEverywhere, HasOwnCapacity, HasOwnChannel, IsApartFromLater, IsNewNode, IsReady, IsReleased, IsValid}
use Rattle.endless_schedules.specs.Worked.{late_jobs, late_plan}
use Rattle.endless_schedules.proofs.WorkedRules.{none, one, two}
use Rattle.endless_schedules.proofs.WorkedJobs.{four}

abbrev i : Instance
i = late_jobs

abbrev plan : Plan
plan = late_plan

new_node : (k : ℕ) → k < 2 → IsNewNode 2 (1 ∷ 0 ∷ []) k
new_node = two (IsNewNode 2 (1 ∷ 0 ∷ []))
    (record { node = lit< tt; first = none _ })
    (record { node = lit< tt; first = one (λ j. slice_index (1 ∷ 0 ∷ []) j ≢ 0) (λ e. absurd (omega (arith, e))) })

own : (n : ℕ) → n < 2 → HasOwnCapacity i plan.caps n
own = two (HasOwnCapacity i plan.caps) (record { own = Contains-get_or (2 ∷ []) 0 0 (lit< tt) }) (record { own = Contains-get_or (0 ∷ []) 0 0 (lit< tt) })

released : (p : ℕ) → p < 4 → IsReleased i plan p
released = four (IsReleased i plan) (lit≤ tt) (lit≤ tt) (lit≤ tt) (lit≤ tt)

in_time : (p : ℕ) → p < 4 → EndsInTime i plan p
in_time = four (EndsInTime i plan) (lit≤ tt, lit≤ tt) (lit≤ tt, lit≤ tt) (lit≤ tt, lit≤ tt) (lit≤ tt, lit≤ tt)

-- of p and another, which is on another node, and of the jobs of q and the store, one is over before the other
other_node : (q : ℕ) → 0 < q → q < 4 → AreApart i plan 0 q
other_node zero later inside = absurd (omega (arith, later))
other_node (suc zero) later inside = λ same. absurd (omega (arith, same))
other_node (suc (suc zero)) later inside = λ same. absurd (omega (arith, same))
other_node (suc (suc (suc zero))) later inside = λ same. absurd (omega (arith, same))
other_node (suc (suc (suc (suc q)))) later inside = absurd (omega (arith, inside))

of_first_job : (q : ℕ) → 1 < q → q < 4 → AreApart i plan 1 q
of_first_job zero later inside = absurd (omega (arith, later))
of_first_job (suc zero) later inside = absurd (omega (arith, later))
of_first_job (suc (suc zero)) later inside = λ same. inl (lit≤ tt)
of_first_job (suc (suc (suc zero))) later inside = λ same. inl (lit≤ tt)
of_first_job (suc (suc (suc (suc q)))) later inside = absurd (omega (arith, inside))

of_second_job : (q : ℕ) → 2 < q → q < 4 → AreApart i plan 2 q
of_second_job zero later inside = absurd (omega (arith, later))
of_second_job (suc zero) later inside = absurd (omega (arith, later))
of_second_job (suc (suc zero)) later inside = absurd (omega (arith, later))
of_second_job (suc (suc (suc zero))) later inside = λ same. inr (lit≤ tt)
of_second_job (suc (suc (suc (suc q)))) later inside = absurd (omega (arith, inside))

apart : (p : ℕ) → p < 4 → IsApartFromLater i plan p
apart = four (IsApartFromLater i plan) other_node of_first_job of_second_job (λ q later there. absurd (omega (arith, later, there)))

arrived : (m : ℕ) → m < 1 → HasArrivedEverywhere i plan m
arrived = one (HasArrivedEverywhere i plan) (one (HasArrivedAt i plan 0) (lit≤ tt))

fits : (m : ℕ) → m < 1 → FitsFrame i plan m
fits = one (FitsFrame i plan) (one _ (λ on. lit≤ tt))

on_own : (m : ℕ) → m < 1 → HasOwnChannel i plan m
on_own = one (HasOwnChannel i plan) (record { known = lit≤ tt; alone = λ _. refl; both = λ is. absurd (false≢true is) })

pub late_plan_is_valid : IsValid late_jobs late_plan
late_plan_is_valid = record {
  lengths = record { order = refl; capacities = refl; starts = refl; rounds = refl; channels = refl };
  order = record { all = refl; each = new_node };
  capacities = own;
  released = released;
  in_time = in_time;
  apart = apart;
  links = none _;
  ready = one (IsReady i plan) (lit≤ tt);
  arrived = arrived;
  frames = fits;
  on_own = on_own;
}
