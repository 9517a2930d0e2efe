-- The processes of the instance with another bound on a chain's age, one by one.
use Rattle.std.proofs.Common.{◌≡◌, ◌≢◌, ◌∙◌, ℕ, ◌+◌, ◌<◌, ◌≤◌, List, length, map, min, arith, inl, inr, refl, sym, ap, subst}
use Rattle.std.specs.List.{range_with_len}
use Rattle.std.proofs.lemmas.Bool.{cases_eq}
use Rattle.std.proofs.lemmas.List.FromFn.{fill_by_all}
use Rattle.ttp_model.specs.declared.parts.Cluster.{Cluster}
use Rattle.ttp_model.specs.declared.parts.Node.{Node}
use Rattle.ttp_model.specs.declared.parts.Process.{Process}
use Rattle.ttp_model.specs.declared.parts.Link.{Link}
use Rattle.ttp_model.specs.declared.parts.Message.{Message}
use Rattle.ttp_model.specs.Instance as instance
use Rattle.ttp_model.specs.Instance.{Instance, instance_with, no_process}
use Rattle.ttp_model.specs.Totals.{total}
use Rattle.rates_model.specs.declared.parts.Chain.{Chain}
use Rattle.rates_model.specs.Rates.{Rates, chain_at}
use Rattle.rates_model.specs.Cycles.{jobs_of}
use Rattle.rates_model.specs.Ages.{last_of}
use Rattle.endless_schedules.specs.Stores.{job_index}
use Rattle.endless_schedules.specs.Times.{job_deadline}
use Rattle.endless_schedules.specs.Unrolled.{unrolled, unrolled_processes}
use Rattle.endless_schedules.specs.Runs.{IsRun, Job, Run, Store, place_of}
use Rattle.endless_schedules.proofs.RunPlaces.{run_at, to_end_by, to_store_by}
use Rattle.endless_schedules.specs.Bounds.{with_age}
use Rattle.endless_schedules.proofs.OtherBounds.{differ_in_times, horizon_same, other_is, place_same, run_same, undated_at}
use Rattle.endless_schedules.specs.Aging.{aged, latest_end}
use Rattle.endless_schedules.proofs.AgedDeadlines.{last_deadline, other_deadline}

index_is : (rho : Rates) (p k : ℕ) → job_index rho p k ≡ total (jobs_of rho) p + k
unfolding job_index
index_is rho p k = refl

module _ (rho : Rates) (x age : ℕ) (inside : x < length rho.chains) (less : age ≤ (chain_at rho x).age) where
  abbrev other : Rates
  other = with_age rho x age

  abbrev chain : Chain
  chain = chain_at rho x

  abbrev process_in : Rates → ℕ → Process
  process_in it at = instance.process_at (unrolled it) at

  -- the deadline of a job, and of a store
  pub job_to_end : (p k : ℕ) → IsRun rho (Job p k) → (process_in other (place_of rho (Job p k))).deadline ≡ job_deadline other p k
  job_to_end p k there =
      ap (λ (at : ℕ). (process_in other at).deadline) (sym (place_same rho x age (Job p k))) ∙ to_end_by other p k (run_same rho x age (Job p k) there)

  pub store_to_end : (m place : ℕ) → IsRun rho (Store m place)
      → (process_in other (place_of rho (Store m place))).deadline ≡ (process_in rho (place_of rho (Store m place))).deadline
  store_to_end m place there =
      ap (λ (at : ℕ). (process_in other at).deadline) (sym (place_same rho x age (Store m place)))
      ∙ (to_store_by other m place (run_same rho x age (Store m place) there) ∙ (horizon_same rho x age ∙ sym (to_store_by rho m place there)))

  -- of the last process's job k, and of what is none of its jobs
  module _ (first at : ℕ) (begins : first ≡ total (jobs_of rho) (last_of chain)) where
    pub last_aged : (k : ℕ) → last_of chain < length rho.processes → k < jobs_of rho (last_of chain) → at ≡ first + k
        → (process_in other at).deadline ≡ min (process_in rho at).deadline (latest_end rho chain age k)
    last_aged k there below is =
        let run : IsRun rho (Job (last_of chain) k) = (there, below) in
        let place : at ≡ place_of rho (Job (last_of chain) k) = omega (arith, is, begins, index_is rho (last_of chain) k) in
        let own = (process_in rho (place_of rho (Job (last_of chain) k))).deadline in
        let here : (process_in other (place_of rho (Job (last_of chain) k))).deadline ≡ min own (latest_end rho chain age k)
        = omega (arith, job_to_end (last_of chain) k run, to_end_by rho (last_of chain) k run, last_deadline rho x age inside less k) in
        subst (λ (a : ℕ). (process_in other a).deadline ≡ min (process_in rho a).deadline (latest_end rho chain age k)) (sym place) here

    kept_deadline : (run : Run) → IsRun rho run → place_of rho run ≡ at → ((k : ℕ) → k < jobs_of rho (last_of chain) → at ≢ first + k)
        → (process_in other (place_of rho run)).deadline ≡ (process_in rho (place_of rho run)).deadline
    kept_deadline (Job p k) there is none = elim (cases_eq (last_of chain) p) [
      | inl same ↦
          let below : k < jobs_of rho (last_of chain) = subst (λ (q : ℕ). k < jobs_of rho q) (sym same) there.1 in
          absurd (none k below (omega (arith, is, begins, index_is rho p k, ap (total (jobs_of rho)) same)))
      | inr differs ↦ job_to_end p k there ∙ other_deadline rho x age inside less p k differs ∙ sym (to_end_by rho p k there)
    ]
    kept_deadline (Store m place) there is none = store_to_end m place there

    pub none_aged : at < length (unrolled_processes rho) → ((k : ℕ) → k < jobs_of rho (last_of chain) → at ≢ first + k)
        → (process_in other at).deadline ≡ (process_in rho at).deadline
    none_aged there none =
        let run = run_at rho at there in
        subst (λ (a : ℕ). (process_in other a).deadline ≡ (process_in rho a).deadline) run.2 (kept_deadline run.0 run.1 run.2 none)

  -- with its deadline it is the process that it is
  pub process_is : (at d : ℕ) → at < length (unrolled_processes rho) → d ≡ (process_in other at).deadline
      → record (process_in rho at) { deadline = d } ≡ process_in other at
  process_is at d there is =
      ap (λ (deadline : ℕ). record (process_in rho at) { deadline = deadline }) is
      ∙ ap (λ (p : Process). record p { deadline = (process_in other at).deadline }) (sym (undated_at rho x age at there))

  -- all of them
  pub all_aged : (processes : List Process) → processes ≡ map (process_in other) (range_with_len 0 (length (unrolled_processes rho)))
      → processes ≡ unrolled_processes other
  all_aged processes are = are ∙ sym (fill_by_all (process_in other) (unrolled_processes other) (length (unrolled_processes rho)) no_process
      (differ_in_times rho x age).all (λ p below. refl))

  -- and so the instance
  pub tables_are : (cluster : Cluster) (nodes : List Node) (processes : List Process) (links : List Link) (messages : List Message)
      → cluster ≡ (unrolled rho).cluster → nodes ≡ (unrolled rho).nodes → processes ≡ unrolled_processes other
      → links ≡ (unrolled rho).links → messages ≡ (unrolled rho).messages
      → instance_with cluster nodes processes links messages ≡ aged rho x age
  tables_are cluster nodes processes links messages a b c d e = rw (a, b, c, d, e) (other_is rho x age)
