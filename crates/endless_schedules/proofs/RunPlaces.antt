-- Each process of the instance of one cycle is a job or a store, and each of these stands at its place.
use Rattle.std.proofs.Common.{◌≡◌, ◌∙◌, ℕ, suc, ◌+◌, ◌-◌, ◌*◌, ◌<◌, ◌≤◌, List, ◌++◌, length, slice_index, slice_index_or, arith, inl, inr, refl, sym, ap}
use Rattle.std.specs.List.{flat_map, range_with_len}
use Rattle.std.proofs.lemmas.Bool.{cases_lt}
use Rattle.std.proofs.lemmas.List.{get_or_append_left, get_or-append-add, length-append, length-map}
use Rattle.std.proofs.lemmas.List.FromFn.{get_or-map-range_with_len, length-map-range_with_len}
use Rattle.ttp_model.specs.declared.parts.Process.{Process}
use Rattle.ttp_model.specs.Instance.{no_process, node_of, process_at}
use Rattle.ttp_model.specs.Totals.{total}
use Rattle.ttp_model.proofs.Totals.{total_same}
use Rattle.rates_model.specs.Rates as rates
use Rattle.rates_model.specs.Rates.{Rates, message_at, no_message, period_of}
use Rattle.rates_model.specs.Cycles.{horizon_of, jobs_of}
use Rattle.endless_schedules.specs.Stores.{all_jobs, first_store, job_index, storing_nodes}
use Rattle.endless_schedules.specs.Times.{job_deadline}
use Rattle.endless_schedules.specs.Unrolled.{job, jobs, store, stores, unrolled, unrolled_processes}
use Rattle.endless_schedules.specs.Runs.{IsRun, Job, Run, Store, home_of, place_of, ticks_of}
use Rattle.endless_schedules.proofs.MappedAt.{mapped_at}
use Rattle.endless_schedules.proofs.JoinedPieces.{piece_at, pieces_length, pieces_of_list, same_split, split, within_total}

module _ (rho : Rates) where
  -- how many stores message m has
  abbrev storing : ℕ → ℕ
  storing m = length (storing_nodes rho (message_at rho m))

  jobs_long : (p : ℕ) → length (jobs rho p) ≡ jobs_of rho p
  unfolding jobs
  jobs_long p = length-map-range_with_len (job rho p) 0 (jobs_of rho p)

  stores_long : (m : ℕ) → length (stores rho (message_at rho m)) ≡ storing m
  unfolding stores
  stores_long m = length-map (storing_nodes rho (message_at rho m)) (store rho (message_at rho m))

  -- all jobs, and all stores
  abbrev front : List Process
  front = flat_map (jobs rho) (range_with_len 0 (length rho.processes))

  abbrev behind : List Process
  behind = flat_map (stores rho) rho.messages

  abbrev listed : List Process
  listed = flat_map (λ m. stores rho (message_at rho m)) (range_with_len 0 (length rho.messages))

  behind_is : behind ≡ listed
  behind_is = pieces_of_list (stores rho) rho.messages no_message

  jobs_before : (p : ℕ) → total (λ x. length (jobs rho x)) p ≡ total (jobs_of rho) p
  jobs_before p = total_same (λ x. length (jobs rho x)) (jobs_of rho) p (λ k below. jobs_long k)

  stores_before : (m : ℕ) → total (λ x. length (stores rho (message_at rho x))) m ≡ total storing m
  stores_before m = total_same (λ x. length (stores rho (message_at rho x))) storing m (λ k below. stores_long k)

  front_long : length front ≡ all_jobs rho
  front_long = pieces_length (jobs rho) (length rho.processes) ∙ jobs_before (length rho.processes)

  behind_long : length behind ≡ total storing (length rho.messages)
  behind_long = ap length behind_is ∙ (pieces_length (λ m. stores rho (message_at rho m)) (length rho.messages) ∙ stores_before (length rho.messages))

  pub all_long : length (unrolled_processes rho) ≡ all_jobs rho + total storing (length rho.messages)
  all_long = omega (arith, length-append front behind, front_long, behind_long)

  job_place : (p k : ℕ) → job_index rho p k ≡ total (jobs_of rho) p + k
  unfolding job_index
  job_place p k = refl

  stores_begin : (m : ℕ) → first_store rho m ≡ all_jobs rho + total storing m
  unfolding first_store
  stores_begin m = refl

  store_place : (m place : ℕ) → first_store rho m + place ≡ all_jobs rho + (total storing m + place)
  store_place m place = omega (arith, stores_begin m)

  job_there : (p k : ℕ) → p < length rho.processes → k < jobs_of rho p → process_at (unrolled rho) (job_index rho p k) ≡ job rho p k
  unfolding jobs
  job_there p k hp hk =
      let place = job_index rho p k in
      let inside : place < length front = omega (arith, job_place p k, front_long, within_total (jobs_of rho) (length rho.processes) p k hp hk) in
      let here : k < length (jobs rho p) = omega (arith, hk, jobs_long p) in
      let is : place ≡ total (λ x. length (jobs rho x)) p + k = omega (arith, job_place p k, jobs_before p) in
      get_or_append_left front behind no_process place inside
      ∙ (ap (λ x. slice_index_or front x no_process) is
      ∙ (piece_at (jobs rho) (length rho.processes) p k no_process hp here
      ∙ get_or-map-range_with_len (job rho p) 0 (jobs_of rho p) k k no_process hk (omega arith)))

  store_there : (m place : ℕ) → m < length rho.messages → place < storing m
      → process_at (unrolled rho) (first_store rho m + place) ≡ store rho (message_at rho m) (slice_index (storing_nodes rho (message_at rho m)) place)
  unfolding stores
  store_there m place hm there =
      let message = message_at rho m in
      let here : place < length (stores rho message) = omega (arith, there, stores_long m) in
      let is : first_store rho m + place ≡ length front + (total (λ x. length (stores rho (message_at rho x))) m + place) = omega (arith, store_place m place, front_long, stores_before m) in
      ap (λ x. slice_index_or (front ++ behind) x no_process) is
      ∙ (get_or-append-add front behind (total (λ x. length (stores rho (message_at rho x))) m + place) no_process
      ∙ (ap (λ xs. slice_index_or xs (total (λ x. length (stores rho (message_at rho x))) m + place) no_process) behind_is
      ∙ (piece_at (λ x. stores rho (message_at rho x)) (length rho.messages) m place no_process hm here
      ∙ mapped_at (store rho message) (storing_nodes rho message) place 0 no_process there)))

  pub place_inside : (run : Run) → IsRun rho run → place_of rho run < length (unrolled_processes rho)
  place_inside (Job p k) there = omega (arith, all_long, job_place p k, within_total (jobs_of rho) (length rho.processes) p k there.0 there.1)
  place_inside (Store m place) there = omega (arith, all_long, store_place m place, within_total storing (length rho.messages) m place there.0 there.1)

  -- what stands there
  pub job_at : (p k : ℕ) → IsRun rho (Job p k) → process_at (unrolled rho) (place_of rho (Job p k)) ≡ job rho p k
  job_at p k there = job_there p k there.0 there.1

  pub store_at : (m place : ℕ) → IsRun rho (Store m place)
      → process_at (unrolled rho) (place_of rho (Store m place)) ≡ store rho (message_at rho m) (slice_index (storing_nodes rho (message_at rho m)) place)
  store_at m place there = store_there m place there.0 there.1

  job_home : (p k : ℕ) → (job rho p k).node ≡ home_of rho (Job p k)
  unfolding job
  job_home p k = refl

  job_ticks : (p k : ℕ) → (job rho p k).wcet ≡ ticks_of rho (Job p k)
  unfolding job
  job_ticks p k = refl

  store_home : (m place : ℕ) → (store rho (message_at rho m) (slice_index (storing_nodes rho (message_at rho m)) place)).node ≡ home_of rho (Store m place)
  unfolding store
  store_home m place = refl

  store_ticks : (m place : ℕ) → (store rho (message_at rho m) (slice_index (storing_nodes rho (message_at rho m)) place)).wcet ≡ ticks_of rho (Store m place)
  unfolding store
  store_ticks m place = refl

  pub home_is : (run : Run) → IsRun rho run → node_of (unrolled rho) (place_of rho run) ≡ home_of rho run
  home_is (Job p k) there = ap (λ (x : Process). x.node) (job_at p k there) ∙ job_home p k
  home_is (Store m place) there = ap (λ (x : Process). x.node) (store_at m place there) ∙ store_home m place

  pub ticks_are : (run : Run) → IsRun rho run → (process_at (unrolled rho) (place_of rho run)).wcet ≡ ticks_of rho run
  ticks_are (Job p k) there = ap (λ (x : Process). x.wcet) (job_at p k there) ∙ job_ticks p k
  ticks_are (Store m place) there = ap (λ (x : Process). x.wcet) (store_at m place there) ∙ store_ticks m place

  -- each place is one's
  pub run_at : (x : ℕ) → x < length (unrolled_processes rho) → (run : Run) × IsRun rho run × (place_of rho run ≡ x)
  run_at x inside = elim (cases_lt x (all_jobs rho)) [
    | inl early ↦
        let at = split (jobs_of rho) (length rho.processes) x early in
        (Job at.0 at.1, (at.2, at.3), omega (arith, job_place at.0 at.1, at.4))
    | inr late ↦
        let at = split storing (length rho.messages) (x - all_jobs rho) (omega (arith, all_long, inside, late)) in
        (Store at.0 at.1, (at.2, at.3), omega (arith, store_place at.0 at.1, at.4, late))
  ]

  -- and of one alone
  pub one_run : (one other : Run) → IsRun rho one → IsRun rho other → place_of rho one ≡ place_of rho other → one ≡ other
  one_run (Job p j) (Job q k) first second same =
      let both = same_split (jobs_of rho) p q j k first.1 second.1 (omega (arith, same, job_place p j, job_place q k)) in
      rw (both.0, both.1) refl
  one_run (Store l j) (Store m k) first second same =
      let both = same_split storing l m j k first.1 second.1 (omega (arith, same, store_place l j, store_place m k)) in
      rw (both.0, both.1) refl
  one_run (Job p j) (Store m k) first second same =
      absurd (omega (arith, same, job_place p j, store_place m k, within_total (jobs_of rho) (length rho.processes) p j first.0 first.1))
  one_run (Store m k) (Job p j) first second same =
      absurd (omega (arith, same, job_place p j, store_place m k, within_total (jobs_of rho) (length rho.processes) p j second.0 second.1))

  -- and when it may run there
  job_release : (p k : ℕ) → (job rho p k).release ≡ k * period_of rho p + (rates.process_at rho p).release
  unfolding job
  job_release p k = refl

  job_deadline_is : (p k : ℕ) → (job rho p k).deadline ≡ job_deadline rho p k
  unfolding job
  job_deadline_is p k = refl

  store_release : (m place : ℕ) → (store rho (message_at rho m) (slice_index (storing_nodes rho (message_at rho m)) place)).release ≡ 0
  unfolding store
  store_release m place = refl

  store_deadline : (m place : ℕ) → (store rho (message_at rho m) (slice_index (storing_nodes rho (message_at rho m)) place)).deadline ≡ horizon_of rho
  unfolding store
  store_deadline m place = refl

  pub released_from : (p k : ℕ) → IsRun rho (Job p k) → (process_at (unrolled rho) (job_index rho p k)).release ≡ k * period_of rho p + (rates.process_at rho p).release
  released_from p k there = ap (λ (x : Process). x.release) (job_at p k there) ∙ job_release p k

  pub to_end_by : (p k : ℕ) → IsRun rho (Job p k) → (process_at (unrolled rho) (job_index rho p k)).deadline ≡ job_deadline rho p k
  to_end_by p k there = ap (λ (x : Process). x.deadline) (job_at p k there) ∙ job_deadline_is p k

  pub stored_from : (m place : ℕ) → IsRun rho (Store m place) → (process_at (unrolled rho) (first_store rho m + place)).release ≡ 0
  stored_from m place there = ap (λ (x : Process). x.release) (store_at m place there) ∙ store_release m place

  pub to_store_by : (m place : ℕ) → IsRun rho (Store m place) → (process_at (unrolled rho) (first_store rho m + place)).deadline ≡ horizon_of rho
  to_store_by m place there = ap (λ (x : Process). x.deadline) (store_at m place there) ∙ store_deadline m place
