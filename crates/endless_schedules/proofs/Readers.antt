-- Who reads what a job makes, among the processes of the instance of one cycle.
use Rattle.std.proofs.Common.{◌≡◌, ◌∙◌, ℕ, zero, suc, ◌+◌, ◌-◌, ◌<◌, ◌≤◌, ◌==◌, ◌++◌, true, if◌then◌else◌, length, slice_index_or, map, filter, All, Contains, arith, inl, inr, refl, sym, ap, eq-eqb}
use Rattle.std.specs.List.{flat_map, range_with_len}
use Rattle.std.proofs.lemmas.Bool.{eqb-true}
use Rattle.std.proofs.lemmas.Bool.Decides.{eqb_tells}
use Rattle.std.proofs.lemmas.List.{get_or_default}
use Rattle.std.proofs.lemmas.List.Elements.{All-append, All-map, Contains-append_left, Contains-append_right}
use Rattle.rates_model.specs.declared.parts.RatesMessage.{RatesMessage}
use Rattle.rates_model.specs.Rates.{Rates, message_at}
use Rattle.rates_model.specs.Cycles.{jobs_of}
use Rattle.rates_model.specs.Reads.{last_begun, reads_now}
use Rattle.endless_schedules.specs.Stores.{first_store, job_index, storing_nodes}
use Rattle.endless_schedules.specs.Unrolled.{jobs_reading, readers, stores_reading}
use Rattle.endless_schedules.proofs.Members.{All-below, All-filter, All-flat_map, Contains-below, Contains-filter, Contains-flat_map, Contains-map}

-- on plain numbers: n jobs a cycle; b is the last that has begun
now_from : (n b k delay : ℕ) → k < n → delay ≤ 1 → k + delay ≡ b → n + b - delay ≡ n + k
now_from n b k delay some short is = omega (arith, some, short, is)

now_tells : (n b k delay : ℕ) → k < n → delay ≤ 1 → n + b - delay ≡ n + k → k + delay ≡ b
now_tells n b k delay some short is = omega (arith, some, short, is)

module _ (rho : Rates) (m k : ℕ) (there : k < jobs_of rho (message_at rho m).sender) (short : (message_at rho m).delay ≤ 1) where
  abbrev message : RatesMessage
  message = message_at rho m

  abbrev begun : ℕ → ℕ → ℕ
  begun q j = last_begun rho message.sender q j

  -- job j of q reads it in the same cycle
  abbrev pub ReadsNow : ℕ → ℕ → Type 0
  ReadsNow q j = k + message.delay ≡ begun q j

  reads_now_from : (q j : ℕ) → ReadsNow q j → reads_now rho message.sender q message.delay k j ≡ true
  reads_now_from q j is = eq-eqb _ _ (now_from (jobs_of rho message.sender) (begun q j) k message.delay there short is)

  reads_now_tells : (q j : ℕ) → reads_now rho message.sender q message.delay k j ≡ true → ReadsNow q j
  reads_now_tells q j is = now_tells (jobs_of rho message.sender) (begun q j) k message.delay there short (eqb-true _ _ is)

  pub reader_there : (q j : ℕ) → Contains message.receivers q → j < jobs_of rho q → ReadsNow q j → Contains (readers rho m k) (job_index rho q j)
  unfolding readers jobs_reading
  reader_there q j receives inside reads =
      let test = reads_now rho message.sender q message.delay k in
      let one = Contains-map (job_index rho q) (filter test (range_with_len 0 (jobs_of rho q))) j
      (Contains-filter test (range_with_len 0 (jobs_of rho q)) j (Contains-below (jobs_of rho q) j inside) (reads_now_from q j reads)) in
      Contains-append_left (flat_map (jobs_reading rho message k) message.receivers) (stores_reading rho m k) (job_index rho q j)
      (Contains-flat_map (jobs_reading rho message k) message.receivers q (job_index rho q j) receives one)

  pub store_reads : (place : ℕ) → k + 1 ≡ jobs_of rho message.sender → place < length (storing_nodes rho message) → Contains (readers rho m k) (first_store rho m + place)
  unfolding readers stores_reading
  store_reads place last inside =
      Contains-append_right (flat_map (jobs_reading rho message k) message.receivers) (stores_reading rho m k) (first_store rho m + place)
      (rw (eq-eqb (k + 1) (jobs_of rho message.sender) last) (Contains-map (λ x. first_store rho m + x) (range_with_len 0 (length (storing_nodes rho message))) place
      (Contains-below (length (storing_nodes rho message)) place inside)))

  -- what holds of each job that reads it now, and of each store where it is the last of its cycle, holds of all its readers
  pub all_readers : (P : ℕ → Type 0) → ((q j : ℕ) → Contains message.receivers q → j < jobs_of rho q → ReadsNow q j → P (job_index rho q j))
      → ((place : ℕ) → k + 1 ≡ jobs_of rho message.sender → place < length (storing_nodes rho message) → P (first_store rho m + place))
      → All P (readers rho m k)
  unfolding readers jobs_reading stores_reading
  all_readers P now stored =
      All-append P (flat_map (jobs_reading rho message k) message.receivers) (stores_reading rho m k)
      (All-flat_map P (jobs_reading rho message k) message.receivers (λ x d inside. jobs_do (slice_index_or message.receivers x d) (x, inside, get_or_default message.receivers x _ d inside)))
      stores_do
    where
      jobs_do : (q : ℕ) → Contains message.receivers q → All P (jobs_reading rho message k q)
      jobs_do q receives =
          let test = reads_now rho message.sender q message.delay k in
          All-map P (job_index rho q) (filter test (range_with_len 0 (jobs_of rho q)))
          (All-filter (λ j. P (job_index rho q j)) test (range_with_len 0 (jobs_of rho q))
          (All-below (λ j. test j ≡ true → P (job_index rho q j)) (jobs_of rho q) (λ j inside passes. now q j receives inside (reads_now_tells q j passes))))

      stores_do : All P (stores_reading rho m k)
      stores_do = elim (eqb_tells (k + 1) (jobs_of rho message.sender)) [
        | inl last ↦ rw last.0 (All-map P (λ x. first_store rho m + x) (range_with_len 0 (length (storing_nodes rho message)))
            (All-below (λ x. P (first_store rho m + x)) (length (storing_nodes rho message)) (λ place inside. stored place last.1 inside)))
        | inr other ↦ rw other.0 (λ x d inside. absurd (omega (arith, inside)))
      ]
