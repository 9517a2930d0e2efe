-- With which ages each job has room by itself, so that the instance keeps all rules, and with which no plan is valid.
use Rattle.std.proofs.Common.{◌≡◌, ℕ, ◌+◌, ◌<◌, ◌≤◌, length, arith, refl, sym, subst}
use Rattle.ttp_model.specs.declared.error.Place.TheVariants as spot
use Rattle.ttp_model.specs.declared.parts.Process.{Process}
use Rattle.ttp_model.specs.declared.plan.Plan.{Plan}
use Rattle.ttp_model.specs.Limits.{most_ticks}
use Rattle.ttp_model.specs.Instance as instance
use Rattle.ttp_model.specs.Instance.{Instance}
use Rattle.ttp_model.specs.Rules.{CanEndInTime, IsInstance}
use Rattle.ttp_model.specs.Plans.{IsValid}
use Rattle.ttp_model.proofs.ValidPlans.{greatest_each, greatest_reached}
use Rattle.rates_model.specs.declared.parts.Chain.{Chain}
use Rattle.rates_model.specs.Rates.{Rates, chain_at}
use Rattle.rates_model.specs.Cycles.{horizon_of, jobs_of}
use Rattle.rates_model.specs.Ages.{last_of}
use Rattle.rates_model.specs.Rules.{IsRates}
use Rattle.endless_schedules.specs.Times.{job_deadline}
use Rattle.endless_schedules.specs.Unrolled.{unrolled, unrolled_processes}
use Rattle.endless_schedules.specs.Runs.{IsRun, Job, Run, Store, place_of}
use Rattle.endless_schedules.proofs.KeptDeadlines.{in_time_tells}
use Rattle.endless_schedules.proofs.RunPlaces.{place_inside, released_from, run_at, ticks_are, to_end_by}
use Rattle.instance_variants.specs.Variants.{HasWindows, timed, with_times}
use Rattle.instance_variants.proofs.VariedPlans.{timed_variant}
use Rattle.instance_variants.proofs.VariedRules.{rules_varied}
use Rattle.endless_schedules.specs.Bounds.{with_age}
use Rattle.endless_schedules.proofs.OtherBounds.{differ_in_times, other_is, release_same, wcet_same}
use Rattle.endless_schedules.specs.Aging.{aged, earliest_end, late_age, latest_end, own_age, window_age, window_of}
use Rattle.endless_schedules.proofs.AgedDeadlines.{ends_back, ends_in, last_deadline}
use Rattle.endless_schedules.proofs.Chains.{some_jobs}
use Rattle.rates_model.proofs.Periods.{cycle_common}
use Rattle.endless_schedules.proofs.AgedProcesses.{job_to_end, store_to_end}
use Rattle.endless_schedules.proofs.OwnAges.{last_there, some_last}

module _ (rho : Rates) (x : ℕ) (w : IsRates rho) (i : IsInstance (unrolled rho)) (inside : x < length rho.chains) where
  abbrev chain : Chain
  chain = chain_at rho x

  abbrev last : ℕ
  last = last_of chain

  abbrev count : ℕ
  count = jobs_of rho last

  abbrev process_in : Rates → ℕ → Process
  process_in it at = instance.process_at (unrolled it) at

  run_of : (k : ℕ) → k < count → IsRun rho (Job last k)
  run_of k below = (last_there rho x w inside, below)

  -- when a job of the last process ends that starts at its release
  earliest_is : (k : ℕ) → k < count
      → earliest_end rho last k ≡ (process_in rho (place_of rho (Job last k))).release + (process_in rho (place_of rho (Job last k))).wcet
  earliest_is k below = omega (arith, released_from rho last k (run_of k below), ticks_are rho (Job last k) (run_of k below))

  some_end : (k : ℕ) → k < count → 1 ≤ earliest_end rho last k
  some_end k below =
      omega (arith, earliest_is k below, (i.ranges (spot.AtProcess (place_of rho (Job last k))) (place_inside rho (Job last k) (run_of k below))).wcet_least)

  -- each job has room with the bound, so it is at most that
  window_within : (k : ℕ) → k < count → window_of rho chain k ≤ chain.age
  window_within k below =
      let there = run_of k below in
      let room = i.deadlines (place_of rho (Job last k)) (place_inside rho (Job last k) there) in
      let tells = in_time_tells rho last k (earliest_end rho last k) (omega (arith, room, earliest_is k below, to_end_by rho last k there)) in
      let young : earliest_end rho last k ≤ latest_end rho chain chain.age k = tells.2 x inside refl in
      omega (arith, young, some_end k below)

  pub window-le_bound : window_age rho x ≤ chain.age
  window-le_bound =
      let some = some_jobs rho w (cycle_common rho w).some last (last_there rho x w inside) in
      let top = greatest_reached (window_of rho chain) count some in
      omega (arith, top.2, window_within top.0 top.1)

  -- no plan has less
  pub window-le_own : (plan : Plan) → IsValid (unrolled rho) plan → window_age rho x ≤ own_age rho x plan
  window-le_own plan v =
      let top = greatest_reached (window_of rho chain) count (some_last rho x w inside plan) in
      let k = top.0 in
      let there = run_of k top.1 in
      let own = greatest_each (late_age rho plan chain) count k top.1 in
      let starts = v.released (place_of rho (Job last k)) (place_inside rho (Job last k) there) in
      omega (arith, top.2, own, starts, released_from rho last k there)

  module _ (age : ℕ) (less : age ≤ chain.age) where
    abbrev other : Rates
    other = with_age rho x age

    inside_old : (at : ℕ) → at < length (unrolled_processes other) → at < length (unrolled_processes rho)
    inside_old at there = omega (arith, there, (differ_in_times rho x age).all)

    -- with a window's age or more
    module _ (enough : window_age rho x ≤ age) where
      room_of_last : (k : ℕ) → k < count → earliest_end rho last k ≤ latest_end rho chain age k
      room_of_last k below = let window = greatest_each (window_of rho chain) count k below in omega (arith, window, enough)

      -- each has room
      has_room : (run : Run) → IsRun rho run
          → (process_in rho (place_of rho run)).release + (process_in rho (place_of rho run)).wcet ≤ (process_in other (place_of rho run)).deadline
      has_room (Job p k) there =
          let at = place_of rho (Job p k) in
          let ticks = (process_in rho at).release + (process_in rho at).wcet in
          let own : ticks ≤ job_deadline rho p k = omega (arith, i.deadlines at (place_inside rho (Job p k) there), to_end_by rho p k there) in
          let by = ends_in rho x age inside less p k ticks own (λ same. last_room p k there same) in
          omega (arith, by, job_to_end rho x age inside less p k there)
        where
          last_room : (p k : ℕ) → IsRun rho (Job p k) → last ≡ p
              → (process_in rho (place_of rho (Job p k))).release + (process_in rho (place_of rho (Job p k))).wcet ≤ latest_end rho chain age k
          last_room p k there same =
              let below : k < count = subst (λ (q : ℕ). k < jobs_of rho q) (sym same) there.1 in
              let room = room_of_last k below in
              let is = earliest_is k below in
              let here = λ (q : ℕ). process_in rho (place_of rho (Job q k)) in
              subst (λ (q : ℕ). (here q).release + (here q).wcet ≤ latest_end rho chain age k) same (omega (arith, room, is))
      has_room (Store m place) there =
          omega (arith, i.deadlines (place_of rho (Store m place)) (place_inside rho (Store m place) there), store_to_end rho x age inside less m place there)

      small_run : (run : Run) → IsRun rho run → (process_in other (place_of rho run)).deadline ≤ most_ticks
      small_run (Job p k) there =
          let by = (ends_back rho x age inside less p k (job_deadline other p k) (omega arith)).0 in
          let most = (i.ranges (spot.AtProcess (place_of rho (Job p k))) (place_inside rho (Job p k) there)).deadline in
          omega (arith, by, most, job_to_end rho x age inside less p k there, to_end_by rho p k there)
      small_run (Store m place) there =
          let small = i.ranges (spot.AtProcess (place_of rho (Store m place))) (place_inside rho (Store m place) there) in
          omega (arith, small.deadline, store_to_end rho x age inside less m place there)

      room_at : (at : ℕ) → at < length (unrolled_processes rho) → (process_in rho at).release + (process_in rho at).wcet ≤ (process_in other at).deadline
      room_at at there =
          let run = run_at rho at there in
          subst (λ (a : ℕ). (process_in rho a).release + (process_in rho a).wcet ≤ (process_in other a).deadline) run.2 (has_room run.0 run.1)

      small_at : (at : ℕ) → at < length (unrolled_processes rho) → (process_in other at).deadline ≤ most_ticks
      small_at at there =
          let run = run_at rho at there in
          subst (λ (a : ℕ). (process_in other a).deadline ≤ most_ticks) run.2 (small_run run.0 run.1)

      windows : HasWindows (with_times (unrolled rho) (horizon_of rho) (unrolled_processes other))
      windows = record {
        horizon_least = (i.ranges spot.AtCluster).horizon_least;
        horizon = (i.ranges spot.AtCluster).horizon;
        wcet_least = λ at there. omega (arith, (i.ranges (spot.AtProcess at) (inside_old at there)).wcet_least, wcet_same rho x age at (inside_old at there));
        windows = λ at there.
            let old = inside_old at there in
            omega (arith, room_at at old, wcet_same rho x age at old, release_same rho x age at old);
        deadlines = λ at there. small_at at (inside_old at there);
      }

      -- so all rules are kept
      pub rules_aged : IsInstance (aged rho x age)
      rules_aged =
          let variant = timed_variant (unrolled rho) (horizon_of rho) (unrolled_processes other) (differ_in_times rho x age) in
          let times = timed (unrolled rho) (horizon_of rho) (unrolled_processes other) in
          subst IsInstance (other_is rho x age) (rules_varied (unrolled rho) times variant i windows)

    -- and with less some job has none
    pub lacks_room : (plan : Plan) → age < window_age rho x → ¬ ((at : ℕ) → at < length (unrolled_processes rho) → CanEndInTime (aged rho x age) at)
    lacks_room plan below all =
        let top = greatest_reached (window_of rho chain) count (some_last rho x w inside plan) in
        let k = top.0 in
        let there = run_of k top.1 in
        let at = place_of rho (Job last k) in
        let here = place_inside rho (Job last k) there in
        let room = all at here in
        let by = job_to_end rho x age inside less last k there in
        let both = last_deadline rho x age inside less k in
        let is = earliest_is k top.1 in
        absurd (omega (arith, top.2, below, room, by, both, is, some_end k top.1, wcet_same rho x age at here, release_same rho x age at here))
