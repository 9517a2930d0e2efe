-- With another bound on a chain's age all is as it was in the instance of one cycle, but by when jobs have to end.
use Rattle.std.proofs.Common.{◌≡◌, ◌≢◌, ◌∙◌, ℕ, ◌+◌, ◌-◌, ◌*◌, ◌<◌, List, [], ◌∷◌, length, slice_index, inl, inr, refl, sym, ap, subst}
use Rattle.std.proofs.lemmas.Bool.{cases_eq}
use Rattle.std.proofs.lemmas.List.{get_or-set_other, get_or-set_same, length-set}
use Rattle.ttp_model.specs.declared.parts.Process.{Process}
use Rattle.ttp_model.specs.Instance as instance
use Rattle.ttp_model.specs.Instance.{Instance, no_process}
use Rattle.rates_model.specs.declared.parts.Chain.{Chain}
use Rattle.rates_model.specs.Rates.{Rates, chain_at, no_chain, message_at}
use Rattle.rates_model.specs.Cycles.{cycle, horizon_of}
use Rattle.rates_model.specs.Reads.{job_from_all, last_begun}
use Rattle.rates_model.specs.Ages.{age_deadline, carried, cycles_back, first_of, last_of, release_from_all, wait_of}
use Rattle.endless_schedules.specs.Stores.{first_store, job_index, storing_nodes}
use Rattle.endless_schedules.specs.Times.{carried_release}
use Rattle.endless_schedules.specs.Unrolled.{job, job_message, jobs_reading, link_to, links_of, messages_of, readers, sent_of, store, stores_reading, unrolled, unrolled_processes}
use Rattle.endless_schedules.specs.Runs.{IsRun, Job, Run, Store, place_of}
use Rattle.endless_schedules.proofs.RunPlaces.{all_long, job_at, run_at, store_at}
use Rattle.instance_variants.specs.Variants.{DifferInTimes, with_times}
use Rattle.endless_schedules.specs.Bounds.{with_age}

-- a process without its deadline
abbrev pub undated : Process → Process
undated p = record p { deadline = 0 }

module _ (rho : Rates) (x most : ℕ) where
  abbrev pub other : Rates
  other = with_age rho x most

  pub cycle_same : cycle other ≡ cycle rho
  unfolding cycle
  cycle_same = refl

  pub horizon_same : horizon_of other ≡ horizon_of rho
  unfolding cycle
  horizon_same = refl

  -- one of the one cluster is one of the other, at its place
  pub run_same : (run : Run) → IsRun rho run → IsRun other run
  unfolding cycle storing_nodes
  run_same (Job p k) there = there
  run_same (Store m place) there = there

  pub place_same : (run : Run) → place_of other run ≡ place_of rho run
  unfolding cycle job_index first_store storing_nodes
  place_same (Job p k) = refl
  place_same (Store m place) = refl

  job_same : (p k : ℕ) → undated (job other p k) ≡ undated (job rho p k)
  unfolding job cycle
  job_same p k = refl

  store_same : (m place : ℕ) → store other (message_at other m) (slice_index (storing_nodes other (message_at other m)) place)
      ≡ store rho (message_at rho m) (slice_index (storing_nodes rho (message_at rho m)) place)
  unfolding store storing_nodes cycle
  store_same m place = refl

  processes_many : length (unrolled_processes other) ≡ length (unrolled_processes rho)
  unfolding storing_nodes cycle
  processes_many = all_long other ∙ sym (all_long rho)

  -- all but the deadline is as it was
  undated_run : (run : Run) → IsRun rho run → undated (instance.process_at (unrolled other) (place_of rho run)) ≡ undated (instance.process_at (unrolled rho) (place_of rho run))
  undated_run (Job p k) there =
      ap (λ (at : ℕ). undated (instance.process_at (unrolled other) at)) (sym (place_same (Job p k)))
      ∙ ap undated (job_at other p k (run_same (Job p k) there)) ∙ job_same p k ∙ ap undated (sym (job_at rho p k there))
  undated_run (Store m place) there =
      ap (λ (at : ℕ). undated (instance.process_at (unrolled other) at)) (sym (place_same (Store m place)))
      ∙ ap undated (store_at other m place (run_same (Store m place) there)) ∙ ap undated (store_same m place) ∙ ap undated (sym (store_at rho m place there))

  pub undated_at : (p : ℕ) → p < length (unrolled_processes rho) → undated (instance.process_at (unrolled other) p) ≡ undated (instance.process_at (unrolled rho) p)
  undated_at p inside =
      let run = run_at rho p inside in
      subst (λ (at : ℕ). undated (instance.process_at (unrolled other) at) ≡ undated (instance.process_at (unrolled rho) at)) run.2 (undated_run run.0 run.1)

  pub wcet_same : (p : ℕ) → p < length (unrolled_processes rho) → (instance.process_at (unrolled other) p).wcet ≡ (instance.process_at (unrolled rho) p).wcet
  wcet_same p inside = ap (λ (at : Process). at.wcet) (undated_at p inside)

  pub release_same : (p : ℕ) → p < length (unrolled_processes rho) → (instance.process_at (unrolled other) p).release ≡ (instance.process_at (unrolled rho) p).release
  release_same p inside = ap (λ (at : Process). at.release) (undated_at p inside)

  pub differ_in_times : DifferInTimes (unrolled_processes rho) (unrolled_processes other)
  differ_in_times = record {
    all = processes_many;
    name = λ p inside. ap (λ (at : Process). at.name) (undated_at p inside);
    node = λ p inside. ap (λ (at : Process). at.node) (undated_at p inside);
  }

  -- either instance is the other with its processes
  pub other_is : with_times (unrolled rho) (horizon_of rho) (unrolled_processes other) ≡ unrolled other
  unfolding links_of link_to job_index messages_of sent_of readers jobs_reading stores_reading job_message first_store storing_nodes cycle
  other_is = refl

  pub own_is : with_times (unrolled other) (horizon_of rho) (unrolled_processes rho) ≡ unrolled rho
  unfolding links_of link_to job_index messages_of sent_of readers jobs_reading stores_reading job_message first_store storing_nodes cycle
  own_is = refl

  -- what a chain carries is as it was
  carried_same : (ps : List ℕ) (j : ℕ) → carried other ps j ≡ carried rho ps j
  carried_same [] j = refl
  carried_same (p ∷ []) j = refl
  carried_same (p ∷ q ∷ ps) j = ap (λ (i : ℕ). last_begun rho p q i - wait_of rho p q) (carried_same (q ∷ ps) j)

  deadline_same : (chain : Chain) (k : ℕ) → age_deadline other chain k ≡ age_deadline rho chain k
  unfolding cycle
  deadline_same chain k =
      ap (λ (i : ℕ). chain.age + release_from_all rho (first_of chain) i - cycles_back chain * cycle rho) (carried_same chain.through (job_from_all rho (last_of chain) (cycles_back chain) k))

  chain_same : (y : ℕ) → y ≢ x → chain_at other y ≡ chain_at rho y
  chain_same y differs = get_or-set_other rho.chains x y (record (chain_at rho x) { age = most }) no_chain differs

  chain_is : x < length rho.chains → chain_at other x ≡ record (chain_at rho x) { age = most }
  chain_is inside = get_or-set_same rho.chains x (record (chain_at rho x) { age = most }) no_chain inside

  pub chains_many : length other.chains ≡ length rho.chains
  chains_many = length-set rho.chains x (record (chain_at rho x) { age = most })

  -- where its last process ends, and by when
  pub last_same : (y : ℕ) → x < length rho.chains → last_of (chain_at other y) ≡ last_of (chain_at rho y)
  last_same y inside = elim (cases_eq y x) [
    | inl same ↦ ap (λ (z : ℕ). last_of (chain_at other z)) same ∙ (ap last_of (chain_is inside) ∙ ap (λ (z : ℕ). last_of (chain_at rho z)) (sym same))
    | inr differs ↦ ap last_of (chain_same y differs)
  ]

  pub deadline_of_others : (y k : ℕ) → y ≢ x → age_deadline other (chain_at other y) k ≡ age_deadline rho (chain_at rho y) k
  deadline_of_others y k differs = ap (λ (chain : Chain). age_deadline other chain k) (chain_same y differs) ∙ deadline_same (chain_at rho y) k

  pub deadline_of_it : (k : ℕ) → x < length rho.chains
      → age_deadline other (chain_at other x) k ≡ most + carried_release rho (chain_at rho x) k - cycles_back (chain_at rho x) * cycle rho
  deadline_of_it k inside = ap (λ (chain : Chain). age_deadline other chain k) (chain_is inside) ∙ deadline_same (record (chain_at rho x) { age = most }) k
