-- What is read of the places that the code keeps, and how large it is.
use Rattle.std.proofs.Common.{◌≡◌, ◌∙◌, ℕ, ◌+◌, ◌<◌, ◌≤◌, List, [], ◌++◌, length, map, get_or, take, arith, ap, ap₂}
use Rattle.std.specs.List.{flat_map, range_with_len}
use Rattle.std.proofs.lemmas.List.{get_or_read, get_or-map, length-map}
use Rattle.std.proofs.lemmas.List.FromFn.{length-map-range_with_len, get_or-map-range_with_len}
use Rattle.ttp_model.specs.Limits.{most_processes, most_links, most_messages}
use Rattle.ttp_model.specs.Totals.{total}
use Rattle.ttp_model.specs.declared.parts.Link.{Link}
use Rattle.ttp_model.specs.declared.parts.Message.{Message}
use Rattle.ttp_model.proofs.Totals.{total_next}
use Rattle.rates_model.specs.declared.parts.RatesLink.{RatesLink}
use Rattle.rates_model.specs.declared.parts.RatesMessage.{RatesMessage}
use Rattle.rates_model.specs.Rates.{Rates, link_at, message_at, no_link, no_message}
use Rattle.rates_model.specs.Cycles.{jobs_of}
use Rattle.endless_schedules.specs.declared.places.Places.{Places}
use Rattle.endless_schedules.specs.Places.{ArePlaces, process_count}
use Rattle.endless_schedules.specs.Stores.{all_storing, first_store, job_index, storing_nodes}
use Rattle.endless_schedules.specs.Unrolled.{jobs_reading, links_of, messages_of, readers, stores_reading, unrolled_links, unrolled_messages, unrolled_processes}
use Rattle.endless_schedules.proofs.Counts.{first_store_next, job_index_few, job_index_is, jobs_few, pieces_below, process_total, stores_few}
use Rattle.endless_schedules.proofs.Lists.{pieces_longer, pieces_more, taken_more}
use Rattle.endless_schedules.proofs.Pieces.{readers_are}

-- of what a function gives for the first numbers
module _ (f : ℕ → ℕ) (n : ℕ) (xs : List ℕ) (made : xs ≡ map f (range_with_len 0 n)) where
  pub made_length : length xs ≡ n
  made_length = ap length made ∙ length-map-range_with_len f 0 n

  pub made_read : (i read : ℕ) → i < n → read ≡ get_or xs i read → read ≡ f i
  made_read i read inside found =
      get_or_read xs i read (omega (arith, inside, made_length)) found 0
      ∙ ap (λ (ys : List ℕ). get_or ys i 0) made ∙ get_or-map-range_with_len f 0 n i i 0 inside (omega arith)

module _ (rho : Rates) (xs : List (List ℕ)) (made : xs ≡ all_storing rho) where
  pub storing_length : length xs ≡ length rho.messages
  storing_length = ap length made ∙ length-map rho.messages (storing_nodes rho)

  pub storing_read : (m : ℕ) (read : List ℕ) → m < length rho.messages → read ≡ get_or xs m read → read ≡ storing_nodes rho (message_at rho m)
  storing_read m read inside found =
      get_or_read xs m read (omega (arith, inside, storing_length)) found []
      ∙ ap (λ (ys : List (List ℕ)). get_or ys m []) made ∙ get_or-map (storing_nodes rho) rho.messages m no_message [] inside

-- with the jobs of one process more, or the stores of one message more, there are too many
module _ (rho : Rates) where
  pub jobs_many : (p count more : ℕ) → p < length rho.processes → count ≡ total (jobs_of rho) p → more ≡ jobs_of rho p → most_processes < count + more
      → most_processes < length (unrolled_processes rho)
  jobs_many p count more inside counted is many =
      let few : total (jobs_of rho) (p + 1) ≤ _ = jobs_few rho (p + 1) (omega (arith, inside)) in
      omega (arith, process_total rho, few, total_next (jobs_of rho) p, counted, is, many)

  pub stores_many : (m count more : ℕ) → m < length rho.messages → count ≡ first_store rho m → more ≡ length (storing_nodes rho (message_at rho m)) → most_processes < count + more
      → most_processes < length (unrolled_processes rho)
  stores_many m count more inside counted is many =
      omega (arith, process_total rho, stores_few rho (m + 1) (omega (arith, inside)), first_store_next rho m, counted, is, many)

-- the index of a job, and of a store
module _ (rho : Rates) (places : Places) (w : ArePlaces rho places) where
  module _ (p k read : ℕ) (inside : p < length rho.processes) (there : k < jobs_of rho p) (found : read ≡ get_or places.first_jobs.items p read) where
    pub job_read : read + k ≡ job_index rho p k
    job_read = ap (λ (n : ℕ). n + k) (made_read _ _ _ w.jobs p read inside found) ∙ job_index_is rho p k

    pub job_small : read + k < most_processes
    job_small = omega (arith, job_read, job_index_few rho p k inside there, w.few)

  module _ (m read : ℕ) (inside : m < length rho.messages) (found : read ≡ get_or places.first_stores.items m read) where
    pub store_read : read ≡ first_store rho m
    store_read = made_read _ _ _ w.stores m read inside found

    pub store_small : (nodes : List ℕ) (place : ℕ) → nodes ≡ get_or places.storing.items m nodes → place < length nodes → read + place < most_processes
    store_small nodes place these below =
        let count : length nodes ≡ length (storing_nodes rho (message_at rho m)) = ap length (storing_read rho _ w.storing m nodes inside these) in
        omega (arith, store_read, count, first_store_next rho m, stores_few rho (m + 1) (omega (arith, inside)), w.few, below)

-- all readers, the jobs first
module _ (rho : Rates) (m k : ℕ) (message : RatesMessage) (is : message ≡ message_at rho m) where
  pub all_readers : (start jobs all : List ℕ) → start ≡ [] → jobs ≡ start ++ flat_map (jobs_reading rho message k) message.receivers → all ≡ jobs ++ stores_reading rho m k → all ≡ readers rho m k
  all_readers start jobs all empty some behind =
      behind
      ∙ ap (λ (ys : List ℕ). ys ++ stores_reading rho m k)
      (some ∙ ap₂ (λ (xs : List ℕ) (x : RatesMessage). xs ++ flat_map (jobs_reading rho x k) x.receivers) empty is)
      ∙ readers_are rho m k

-- how many jobs its sender has
pub sender_jobs : (rho : Rates) (m : ℕ) (message : RatesMessage) → message ≡ message_at rho m → (n : ℕ) → n ≡ jobs_of rho message.sender → n ≡ jobs_of rho (message_at rho m).sender
sender_jobs rho m message is n of_it = of_it ∙ ap (λ (x : RatesMessage). jobs_of rho x.sender) is

-- one message more
pub messages_next : (rho : Rates) (m : ℕ) (so_far all : List Message) → so_far ≡ flat_map (messages_of rho) (range_with_len 0 m) → all ≡ so_far ++ messages_of rho m
    → all ≡ flat_map (messages_of rho) (range_with_len 0 (m + 1))
messages_next rho m so_far all before more = more ∙ ap (λ (ys : List Message). ys ++ messages_of rho m) before ∙ pieces_more [] (messages_of rho) m

-- the first pieces are too many, and so are all
module _ (rho : Rates) (few : process_count rho ≤ most_processes) where
  processes_few : length (unrolled_processes rho) ≤ most_processes
  processes_few = omega (arith, process_total rho, few)

  pub links_many : (l : ℕ) (link : RatesLink) (so_far all : List Link) → l < length rho.links → link ≡ link_at rho l → so_far ≡ flat_map (links_of rho) (take l rho.links)
      → all ≡ so_far ++ links_of rho link → most_links < length all → (length (unrolled_processes rho) ≤ most_processes) × (most_links < length (unrolled_links rho))
  links_many l link so_far all inside is before more many =
      let next : all ≡ flat_map (links_of rho) (take (l + 1) rho.links) =
      more ∙ ap₂ (λ (ys : List Link) (x : RatesLink). ys ++ links_of rho x) before is ∙ taken_more [] (links_of rho) rho.links l no_link inside in
      (processes_few, omega (arith, ap length next, pieces_longer (links_of rho) rho.links (l + 1), many))

  pub messages_many : (m : ℕ) (so_far all : List Message) → m < length rho.messages → so_far ≡ flat_map (messages_of rho) (range_with_len 0 m)
      → all ≡ so_far ++ messages_of rho m → length (unrolled_links rho) ≤ most_links → most_messages < length all
      → (length (unrolled_processes rho) ≤ most_processes) × (length (unrolled_links rho) ≤ most_links) × (most_messages < length (unrolled_messages rho))
  messages_many m so_far all inside before more links many =
      (processes_few, links, omega (arith, ap length (messages_next rho m so_far all before more), pieces_below (messages_of rho) (m + 1) (length rho.messages) (omega (arith, inside)), many))
