-- How many processes there are, and where each job stands among them.
use Rattle.std.proofs.Common.{◌≡◌, ◌∙◌, ℕ, zero, suc, ◌+◌, ◌<◌, ◌≤◌, List, [], ◌∷◌, ◌++◌, length, get_or, take, arith, refl, sym, ap, ap₂, add-one}
use Rattle.std.specs.List.{flat_map, range_with_len}
use Rattle.std.proofs.lemmas.List.{flat_map_more, length-map, take_all, take_more}
use Rattle.std.proofs.lemmas.List.FromFn.{length-map-range_with_len}
use Rattle.std.proofs.Math.ListN.{length-append}
use Rattle.ttp_model.specs.Totals.{total}
use Rattle.ttp_model.proofs.Totals.{total_next, total_longer}
use Rattle.ttp_model.proofs.Ranges.{range_more}
use Rattle.rates_model.specs.declared.parts.RatesMessage.{RatesMessage}
use Rattle.rates_model.specs.Rates.{Rates, message_at, no_message}
use Rattle.rates_model.specs.Cycles.{jobs_of}
use Rattle.rates_model.specs.Rules.{IsRates}
use Rattle.rates_model.proofs.Rooms.{job_some}
use Rattle.endless_schedules.specs.Stores.{all_jobs, first_store, job_index, storing_nodes}
use Rattle.endless_schedules.specs.Places.{process_count}
use Rattle.endless_schedules.specs.Unrolled.{jobs, stores, unrolled_processes}

-- one piece more
piece_more : {A X : Type 0} (f : A → List X) (xs : List A) (x : A) → length (flat_map f (xs ++ x ∷ [])) ≡ length (flat_map f xs) + length (f x)
piece_more f xs x = ap length (sym (flat_map_more f [] xs x)) ∙ length-append (flat_map f xs) (f x)

-- pieces of the first numbers
next_pieces : {X : Type 0} (f : ℕ → List X) (g : ℕ → ℕ) (n : ℕ) → ((k : ℕ) → length (f k) ≡ g k) → length (flat_map f (range_with_len 0 n)) ≡ total g n
    → length (flat_map f (range_with_len 0 (n + 1))) ≡ total g (n + 1)
next_pieces f g n each before =
    let split : length (flat_map f (range_with_len 0 (n + 1))) ≡ length (flat_map f (range_with_len 0 n)) + length (f n) =
    ap (λ (ks : List ℕ). length (flat_map f ks)) (range_more n) ∙ piece_more f (range_with_len 0 n) n in
    omega (arith, split, before, each n, total_next g n)

pub pieces_total : {X : Type 0} (f : ℕ → List X) (g : ℕ → ℕ) (n : ℕ) → ((k : ℕ) → length (f k) ≡ g k) → length (flat_map f (range_with_len 0 n)) ≡ total g n
pieces_total f g zero each = refl
pieces_total f g (suc n) each = rw add-one at (next_pieces f g n each (pieces_total f g n each))

pub pieces_below : {X : Type 0} (f : ℕ → List X) (i n : ℕ) → i ≤ n → length (flat_map f (range_with_len 0 i)) ≤ length (flat_map f (range_with_len 0 n))
pieces_below f i n few =
    let first = pieces_total f (λ k. length (f k)) i (λ k. refl) in
    let all = pieces_total f (λ k. length (f k)) n (λ k. refl) in
    omega (arith, first, all, total_longer (λ k. length (f k)) i n few)

-- and of the first elements of a list
module _ {A X : Type 0} (f : A → List X) (g : A → ℕ) (xs : List A) (d : A) (each : (x : A) → length (f x) ≡ g x) where
  next_taken : (n : ℕ) → n < length xs → length (flat_map f (take n xs)) ≡ total (λ k. g (get_or xs k d)) n
      → length (flat_map f (take (n + 1) xs)) ≡ total (λ k. g (get_or xs k d)) (n + 1)
  next_taken n within before =
      let split : length (flat_map f (take (n + 1) xs)) ≡ length (flat_map f (take n xs)) + length (f (get_or xs n d)) =
      ap (λ (ys : List A). length (flat_map f ys)) (take_more xs n d within) ∙ piece_more f (take n xs) (get_or xs n d) in
      omega (arith, split, before, each (get_or xs n d), total_next (λ k. g (get_or xs k d)) n)

  pub taken_total : (n : ℕ) → n ≤ length xs → length (flat_map f (take n xs)) ≡ total (λ k. g (get_or xs k d)) n
  taken_total zero few = refl
  taken_total (suc n) few = rw add-one at (next_taken n (omega (arith, few)) (taken_total n (omega (arith, few))))

module _ (rho : Rates) where
  job_count : (p : ℕ) → length (jobs rho p) ≡ jobs_of rho p
  unfolding jobs
  job_count p = length-map-range_with_len _ 0 (jobs_of rho p)

  store_count : (m : RatesMessage) → length (stores rho m) ≡ length (storing_nodes rho m)
  unfolding stores
  store_count m = length-map (storing_nodes rho m) _

  all_stores : length (flat_map (stores rho) rho.messages) ≡ total (λ k. length (storing_nodes rho (message_at rho k))) (length rho.messages)
  all_stores =
      let whole : take (length rho.messages) rho.messages ≡ rho.messages = take_all (length rho.messages) rho.messages (omega arith) in
      ap (λ (ms : List RatesMessage). length (flat_map (stores rho) ms)) (sym whole)
      ∙ taken_total (stores rho) (λ m. length (storing_nodes rho m)) rho.messages no_message store_count (length rho.messages) (omega arith)

  -- all jobs and all stores
  pub process_total : length (unrolled_processes rho) ≡ process_count rho
  unfolding first_store
  process_total =
      length-append (flat_map (jobs rho) (range_with_len 0 (length rho.processes))) (flat_map (stores rho) rho.messages)
      ∙ ap₂ (λ a b. a + b) (pieces_total (jobs rho) (jobs_of rho) (length rho.processes) job_count) all_stores

  -- the jobs of the first processes are not more than all
  pub jobs_few : (p : ℕ) → p ≤ length rho.processes → total (jobs_of rho) p ≤ process_count rho
  unfolding first_store
  jobs_few p few = omega (arith, total_longer (jobs_of rho) p (length rho.processes) few)

  pub stores_few : (m : ℕ) → m ≤ length rho.messages → first_store rho m ≤ process_count rho
  unfolding first_store
  stores_few m few = omega (arith, total_longer (λ k. length (storing_nodes rho (message_at rho k))) m (length rho.messages) few)

  -- one message more
  pub first_store_next : (m : ℕ) → first_store rho (m + 1) ≡ first_store rho m + length (storing_nodes rho (message_at rho m))
  unfolding first_store
  first_store_next m = omega (arith, total_next (λ k. length (storing_nodes rho (message_at rho k))) m)

  pub first_store_none : first_store rho 0 ≡ all_jobs rho
  unfolding first_store
  first_store_none = omega arith

  pub job_index_is : (p k : ℕ) → total (jobs_of rho) p + k ≡ job_index rho p k
  unfolding job_index
  job_index_is p k = refl

  -- a job has an index below the count of all
  pub job_index_few : (p k : ℕ) → p < length rho.processes → k < jobs_of rho p → job_index rho p k < process_count rho
  unfolding job_index
  job_index_few p k inside below = omega (arith, jobs_few (p + 1) (omega (arith, inside)), total_next (jobs_of rho) p, below)

-- some process is there
pub some_processes : (rho : Rates) → IsRates rho → 1 ≤ length (unrolled_processes rho)
some_processes rho w =
    omega (arith, process_total rho, jobs_few rho 1 w.limits.processes_least, total_next (jobs_of rho) 0, job_some rho w 0 w.limits.processes_least)
