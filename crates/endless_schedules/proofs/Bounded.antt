-- A plan is valid with a lesser bound on a chain's age just where it is valid and what the chain carries is never older.
use Rattle.std.proofs.Common.{◌≡◌, ◌∙◌, ◌↔◌, ℕ, ◌+◌, ◌-◌, ◌*◌, ◌<◌, ◌≤◌, length, slice_index, All, arith, inl, inr, sym, ap, subst}
use Rattle.std.proofs.lemmas.Bool.{cases_eq}
use Rattle.ttp_model.specs.declared.error.Place.TheVariants as spot
use Rattle.ttp_model.specs.declared.parts.Process.{Process}
use Rattle.ttp_model.specs.declared.plan.Plan.{Plan}
use Rattle.ttp_model.specs.Instance as instance
use Rattle.ttp_model.specs.Instance.{Instance}
use Rattle.ttp_model.specs.Rules.{IsInstance}
use Rattle.ttp_model.specs.Plans.{Ends, EndsInTime, IsValid, Keeps, Releases, end_of}
use Rattle.rates_model.specs.declared.error.RatesPlace.TheVariants.{AtChain}
use Rattle.rates_model.specs.Rates.{Rates, chain_at, period_of, process_at}
use Rattle.rates_model.specs.Cycles.{cycle, horizon_of, jobs_of}
use Rattle.rates_model.specs.Ages.{age_deadline, cycles_back, last_of}
use Rattle.rates_model.specs.Rules.{IsRates}
use Rattle.endless_schedules.specs.Times.{carried_release, job_deadline}
use Rattle.endless_schedules.specs.Unrolled.{unrolled, unrolled_processes}
use Rattle.endless_schedules.specs.Runs.{IsRun, Job, Run, Store, place_of}
use Rattle.endless_schedules.proofs.KeptDeadlines.{EndsYoung, in_time_from, in_time_tells}
use Rattle.endless_schedules.proofs.RunPlaces.{place_inside, run_at, ticks_are, to_end_by, to_store_by}
use Rattle.instance_variants.proofs.Varied.{turned}
use Rattle.instance_variants.proofs.VariedPlans.{valid_across}
use Rattle.endless_schedules.specs.Ages.{AreAgesWithin}
use Rattle.endless_schedules.specs.Bounds.{with_age}
use Rattle.endless_schedules.proofs.ForEver.{age_is_late, has_late_age, late_age}
use Rattle.endless_schedules.proofs.OtherBounds.{chains_many, deadline_of_it, deadline_of_others, differ_in_times, horizon_same, last_same, other_is, own_is, place_same, release_same, run_same, wcet_same}

module _ (rho : Rates) (plan : Plan) (x most : ℕ) (w : IsRates rho) (i : IsInstance (unrolled rho)) (inside : x < length rho.chains) (less : most ≤ (chain_at rho x).age) where
  abbrev other : Rates
  other = with_age rho x most

  -- its processes are there
  some : 0 < length (chain_at rho x).through
  some = let least = (w.throughs x inside).least in omega (arith, least)

  all : All (λ p. p < length rho.processes) (chain_at rho x).through
  all = w.indices (AtChain x) inside

  last_there : (k : ℕ) → k < jobs_of rho (last_of (chain_at rho x)) → IsRun rho (Job (last_of (chain_at rho x)) k)
  last_there k here = (all (length (chain_at rho x).through - 1) 0 (omega (arith, some)), here)

  -- when a job ends
  abbrev ends : ℕ → ℕ → ℕ
  ends p k = slice_index plan.starts (place_of rho (Job p k)) + (process_at rho p).wcet

  ends_is : (p k : ℕ) → IsRun rho (Job p k) → end_of (unrolled rho) plan (place_of rho (Job p k)) ≡ ends p k
  ends_is p k there = ap (λ (t : ℕ). slice_index plan.starts (place_of rho (Job p k)) + t) (ticks_are rho (Job p k) there)

  end_same : (at : ℕ) → at < length (unrolled_processes rho) → end_of (unrolled other) plan at ≡ end_of (unrolled rho) plan at
  end_same at there = ap (λ (t : ℕ). slice_index plan.starts at + t) (wcet_same rho x most at there)

  runs : (p k : ℕ) → IsRun rho (Job p k) → 1 ≤ ends p k
  runs p k there = omega (arith, ends_is p k there, (i.ranges (spot.AtProcess (place_of rho (Job p k))) (place_inside rho (Job p k) there)).wcet_least)

  -- the deadline that the chain's bound is
  abbrev bound : ℕ → ℕ
  bound k = most + carried_release rho (chain_at rho x) k - cycles_back (chain_at rho x) * cycle rho

  -- what chains want of a job's end, with the bound
  young_of_other : (p k e : ℕ) → EndsYoung other p k e → EndsYoung rho p k e
  young_of_other p k e young y there last =
      let by = young y (omega (arith, there, chains_many rho x most)) (last_same rho x most y inside ∙ last) in
      elim (cases_eq y x) [
        | inl same ↦
            let at_x = subst (λ (z : ℕ). e ≤ age_deadline other (chain_at other z) k) same by in
            let within : e ≤ bound k = omega (arith, at_x, deadline_of_it rho x most k inside) in
            subst (λ (z : ℕ). e ≤ age_deadline rho (chain_at rho z) k) (sym same) (omega (arith, within, less))
        | inr differs ↦ omega (arith, by, deadline_of_others rho x most y k differs)
      ]

  young_in_other : (p k e : ℕ) → EndsYoung rho p k e → (last_of (chain_at rho x) ≡ p → e ≤ bound k) → EndsYoung other p k e
  young_in_other p k e young within y there last =
      let here : y < length rho.chains = omega (arith, there, chains_many rho x most) in
      let ends_here : last_of (chain_at rho y) ≡ p = sym (last_same rho x most y inside) ∙ last in
      elim (cases_eq y x) [
        | inl same ↦
            let at_x = within (subst (λ (z : ℕ). last_of (chain_at rho z) ≡ p) same ends_here) in
            subst (λ (z : ℕ). e ≤ age_deadline other (chain_at other z) k) (sym same) (omega (arith, at_x, deadline_of_it rho x most k inside))
        | inr differs ↦ omega (arith, young y here ends_here, deadline_of_others rho x most y k differs)
      ]

  -- each deadline in the other instance
  abbrev process_in : Rates → ℕ → Process
  process_in it at = instance.process_at (unrolled it) at

  deadline_in_other : (p k : ℕ) → IsRun rho (Job p k) → (process_in other (place_of rho (Job p k))).deadline ≡ job_deadline other p k
  deadline_in_other p k there =
      ap (λ (at : ℕ). (process_in other at).deadline) (sym (place_same rho x most (Job p k))) ∙ to_end_by other p k (run_same rho x most (Job p k) there)

  store_in_other : (m place : ℕ) → IsRun rho (Store m place) → (process_in other (place_of rho (Store m place))).deadline ≡ horizon_of rho
  store_in_other m place there =
      ap (λ (at : ℕ). (process_in other at).deadline) (sym (place_same rho x most (Store m place)))
      ∙ (to_store_by other m place (run_same rho x most (Store m place) there) ∙ horizon_same rho x most)

  in_other : (at : ℕ) → at < length (unrolled_processes rho) → at < length (unrolled_processes other)
  in_other at there = omega (arith, there, (differ_in_times rho x most).all)

  -- what each is told by the other
  module _ (v : IsValid (unrolled other) plan) where
    job_tells : (p k : ℕ) → IsRun rho (Job p k)
        → (ends p k ≤ horizon_of rho) × (ends p k ≤ k * period_of rho p + (process_at rho p).deadline) × EndsYoung other p k (ends p k)
    job_tells p k there =
        let at = place_of rho (Job p k) in
        let here = place_inside rho (Job p k) there in
        let by = v.in_time at (in_other at here) in
        let tells = in_time_tells other p k (ends p k) (omega (arith, by.0, end_same at here, ends_is p k there, deadline_in_other p k there)) in
        (omega (arith, tells.0, horizon_same rho x most), tells.1, tells.2)

    in_time_own : (run : Run) → IsRun rho run → EndsInTime (unrolled rho) plan (place_of rho run)
    in_time_own (Job p k) there =
        let tells = job_tells p k there in
        let by = in_time_from rho p k (ends p k) tells.0 tells.1 (young_of_other p k (ends p k) tells.2) in
        (omega (arith, by, ends_is p k there, to_end_by rho p k there), omega (arith, tells.0, ends_is p k there))
    in_time_own (Store m place) there =
        let at = place_of rho (Store m place) in
        let here = place_inside rho (Store m place) there in
        let by = v.in_time at (in_other at here) in
        let within : end_of (unrolled rho) plan at ≤ horizon_of rho = omega (arith, by.1, end_same at here, horizon_same rho x most) in
        (omega (arith, within, to_store_by rho m place there), within)

    valid_of_other : IsValid (unrolled rho) plan
    valid_of_other =
        let none : (at : ℕ) → at < length (unrolled_processes other) → (process_in rho at).wcet ≤ (process_in other at).wcet
        = λ at there. omega (arith, wcet_same rho x most at (in_own at there)) in
        let released : Keeps (unrolled rho) plan Releases
        = λ at there. omega (arith, v.released at (in_other at there), release_same rho x most at there) in
        let in_time : Keeps (unrolled rho) plan Ends = λ at there. (let run = run_at rho at there in subst (EndsInTime (unrolled rho) plan) run.2 (in_time_own run.0 run.1)) in
        subst (λ (it : Instance). IsValid it plan) (own_is rho x most) (valid_across (unrolled other) (horizon_of rho) (unrolled_processes rho) (turned _ _ (differ_in_times rho x most)) plan v none released in_time)
      where
        in_own : (at : ℕ) → at < length (unrolled_processes other) → at < length (unrolled_processes rho)
        in_own at there = omega (arith, there, (differ_in_times rho x most).all)

    ages_of_other : AreAgesWithin rho plan (chain_at rho x) most
    ages_of_other age has =
        let last = last_of (chain_at rho x) in
        let there = last_there has.job has.there in
        let young = (job_tells last has.job there).2 x (omega (arith, inside, chains_many rho x most)) (last_same rho x most x inside) in
        let by : ends last has.job ≤ bound has.job = omega (arith, young, deadline_of_it rho x most has.job inside) in
        omega (arith, by, runs last has.job there, age_is_late rho plan w (chain_at rho x) some all age has)

  module _ (v : IsValid (unrolled rho) plan) (ages : AreAgesWithin rho plan (chain_at rho x) most) where
    within_bound : (p k : ℕ) → IsRun rho (Job p k) → last_of (chain_at rho x) ≡ p → ends p k ≤ bound k
    within_bound p k there last =
        let here : k < jobs_of rho (last_of (chain_at rho x)) = subst (λ (q : ℕ). k < jobs_of rho q) (sym last) there.1 in
        let young = ages (late_age rho plan (chain_at rho x) k) (has_late_age rho plan w (chain_at rho x) some all k here) in
        omega (arith, young, ap (λ (q : ℕ). ends q k) last)

    in_time_other : (run : Run) → IsRun rho run → EndsInTime (unrolled other) plan (place_of rho run)
    in_time_other (Job p k) there =
        let at = place_of rho (Job p k) in
        let here = place_inside rho (Job p k) there in
        let own = v.in_time at here in
        let tells = in_time_tells rho p k (ends p k) (omega (arith, own.0, ends_is p k there, to_end_by rho p k there)) in
        let by = in_time_from other p k (ends p k) (omega (arith, tells.0, horizon_same rho x most)) tells.1 (young_in_other p k (ends p k) tells.2 (within_bound p k there)) in
        (omega (arith, by, end_same at here, ends_is p k there, deadline_in_other p k there), omega (arith, tells.0, horizon_same rho x most, end_same at here, ends_is p k there))
    in_time_other (Store m place) there =
        let at = place_of rho (Store m place) in
        let here = place_inside rho (Store m place) there in
        let own = v.in_time at here in
        (omega (arith, own.1, end_same at here, store_in_other m place there), omega (arith, own.1, end_same at here, horizon_same rho x most))

    valid_in_other : IsValid (unrolled other) plan
    unfolding cycle
    valid_in_other =
        let none : (at : ℕ) → at < length (unrolled_processes rho) → (process_in other at).wcet ≤ (process_in rho at).wcet
        = λ at there. omega (arith, wcet_same rho x most at there) in
        let released : Keeps (unrolled other) plan Releases
        = λ at there. omega (arith, v.released at (in_own at there), release_same rho x most at (in_own at there)) in
        let in_time : Keeps (unrolled other) plan Ends = λ at there. (let run = run_at rho at (in_own at there) in subst (EndsInTime (unrolled other) plan) run.2 (in_time_other run.0 run.1)) in
        subst (λ (it : Instance). IsValid it plan) (other_is rho x most) (valid_across (unrolled rho) (horizon_of rho) (unrolled_processes other) (differ_in_times rho x most) plan v none released in_time)
      where
        in_own : (at : ℕ) → at < length (unrolled_processes other) → at < length (unrolled_processes rho)
        in_own at there = omega (arith, there, (differ_in_times rho x most).all)

  pub valid_with_bound : IsValid (unrolled other) plan ↔ (IsValid (unrolled rho) plan × AreAgesWithin rho plan (chain_at rho x) most)
  valid_with_bound = (λ v. (valid_of_other v, ages_of_other v), λ both. valid_in_other both.0 both.1)
