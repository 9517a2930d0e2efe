-- What stands in a list once all pieces of one kind are there.
use Rattle.std.proofs.Common.{◌≡◌, ◌≢◌, ◌∙◌, ℕ, ◌+◌, Bool, cond, List, [], ◌∷◌, ◌++◌, length, map, filter, refl, sym, ap}
use Rattle.std.specs.List.{flat_map, range_with_len}
use Rattle.std.proofs.lemmas.Bool.{eq-eqb, ne_eqb}
use Rattle.std.proofs.lemmas.List.{append-nil}
use Rattle.ttp_model.specs.declared.parts.Process.{Process}
use Rattle.ttp_model.specs.declared.parts.Link.{Link}
use Rattle.ttp_model.specs.declared.parts.Message.{Message}
use Rattle.rates_model.specs.declared.parts.RatesLink.{RatesLink}
use Rattle.rates_model.specs.declared.parts.RatesMessage.{RatesMessage}
use Rattle.rates_model.specs.Rates.{Rates, message_at}
use Rattle.rates_model.specs.Cycles.{jobs_of}
use Rattle.rates_model.specs.Reads.{reads_now}
use Rattle.endless_schedules.specs.Stores.{first_store, job_index, receiving_nodes, storing_nodes}
use Rattle.endless_schedules.specs.Unrolled.{job, job_message, jobs, jobs_reading, link_to, links_of, messages_of, readers, sent_of, store, stores, stores_reading}

module _ (rho : Rates) where
  pub jobs_done : (before : List Process) (p k : ℕ) → k ≡ jobs_of rho p → before ++ map (job rho p) (range_with_len 0 k) ≡ before ++ jobs rho p
  unfolding jobs
  jobs_done before p k is = ap (λ (n : ℕ). before ++ map (job rho p) (range_with_len 0 n)) is

  pub links_done : (before : List Link) (l : RatesLink) (j : ℕ) → l.delay ≡ 0 → j ≡ jobs_of rho l.after → before ++ map (link_to rho l) (range_with_len 0 j) ≡ before ++ links_of rho l
  unfolding links_of
  links_done before l j now is =
      ap (λ (n : ℕ). before ++ map (link_to rho l) (range_with_len 0 n)) is
      ∙ ap (λ (b : Bool). before ++ cond b (map (link_to rho l) (range_with_len 0 (jobs_of rho l.after))) []) (sym (eq-eqb l.delay 0 now))

  pub links_none : (before : List Link) (l : RatesLink) → l.delay ≢ 0 → before ≡ before ++ links_of rho l
  unfolding links_of
  links_none before l late =
      sym (append-nil before) ∙ ap (λ (b : Bool). before ++ cond b (map (link_to rho l) (range_with_len 0 (jobs_of rho l.after))) []) (sym (ne_eqb l.delay 0 late))

  pub reading_done : (before : List ℕ) (m : RatesMessage) (k q j : ℕ) → j ≡ jobs_of rho q
      → before ++ map (job_index rho q) (filter (reads_now rho m.sender q m.delay k) (range_with_len 0 j)) ≡ before ++ jobs_reading rho m k q
  unfolding jobs_reading
  reading_done before m k q j is = ap (λ (n : ℕ). before ++ map (job_index rho q) (filter (reads_now rho m.sender q m.delay k) (range_with_len 0 n))) is

  pub stores_reading_done : (before : List ℕ) (m k place : ℕ) → k + 1 ≡ jobs_of rho (message_at rho m).sender → place ≡ length (storing_nodes rho (message_at rho m))
      → before ++ map (λ n. first_store rho m + n) (range_with_len 0 place) ≡ before ++ stores_reading rho m k
  unfolding stores_reading
  stores_reading_done before m k place last is =
      ap (λ (n : ℕ). before ++ map (λ i. first_store rho m + i) (range_with_len 0 n)) is
      ∙ ap (λ (b : Bool). before ++ cond b (map (λ i. first_store rho m + i) (range_with_len 0 (length (storing_nodes rho (message_at rho m))))) []) (sym (eq-eqb (k + 1) (jobs_of rho (message_at rho m).sender) last))

  pub stores_reading_none : (before : List ℕ) (m k : ℕ) → k + 1 ≢ jobs_of rho (message_at rho m).sender → before ≡ before ++ stores_reading rho m k
  unfolding stores_reading
  stores_reading_none before m k other =
      sym (append-nil before)
      ∙ ap (λ (b : Bool). before ++ cond b (map (λ i. first_store rho m + i) (range_with_len 0 (length (storing_nodes rho (message_at rho m))))) []) (sym (ne_eqb (k + 1) (jobs_of rho (message_at rho m).sender) other))

  pub readers_are : (m k : ℕ) → ([] ++ flat_map (jobs_reading rho (message_at rho m) k) (message_at rho m).receivers) ++ stores_reading rho m k ≡ readers rho m k
  unfolding readers
  readers_are m k = refl

  pub sent_some : (before : List Message) (m k : ℕ) → length (readers rho m k) ≢ 0 → before ++ job_message rho m k ∷ [] ≡ before ++ sent_of rho m k
  unfolding sent_of
  sent_some before m k some = ap (λ (b : Bool). before ++ cond b [] (job_message rho m k ∷ [])) (sym (ne_eqb (length (readers rho m k)) 0 some))

  pub sent_none : (before : List Message) (m k : ℕ) → length (readers rho m k) ≡ 0 → before ≡ before ++ sent_of rho m k
  unfolding sent_of
  sent_none before m k none = sym (append-nil before) ∙ ap (λ (b : Bool). before ++ cond b [] (job_message rho m k ∷ [])) (sym (eq-eqb (length (readers rho m k)) 0 none))

  pub messages_done : (before : List Message) (m k : ℕ) → k ≡ jobs_of rho (message_at rho m).sender → before ++ flat_map (sent_of rho m) (range_with_len 0 k) ≡ before ++ messages_of rho m
  unfolding messages_of
  messages_done before m k is = ap (λ (n : ℕ). before ++ flat_map (sent_of rho m) (range_with_len 0 n)) is

  pub stores_done : (before : List Process) (m : RatesMessage) (nodes : List ℕ) → nodes ≡ storing_nodes rho m → before ++ map (store rho m) nodes ≡ before ++ stores rho m
  unfolding stores
  stores_done before m nodes is = ap (λ (ns : List ℕ). before ++ map (store rho m) ns) is

  pub nodes_none : (m : RatesMessage) → m.delay ≡ 0 → [] ≡ storing_nodes rho m
  unfolding storing_nodes
  nodes_none m now = ap (λ (b : Bool). cond b [] (receiving_nodes rho m)) (sym (eq-eqb m.delay 0 now))

  pub nodes_some : (m : RatesMessage) → m.delay ≢ 0 → receiving_nodes rho m ≡ storing_nodes rho m
  unfolding storing_nodes
  nodes_some m late = ap (λ (b : Bool). cond b [] (receiving_nodes rho m)) (sym (ne_eqb m.delay 0 late))
