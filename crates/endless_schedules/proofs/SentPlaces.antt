-- Each message of the instance of one cycle is of a job that somebody reads, and stands at its place.
use Rattle.std.proofs.Common.{◌≡◌, ◌≢◌, ◌∙◌, ℕ, zero, suc, ◌+◌, ◌<◌, ◌≤◌, ◌==◌, List, [], ◌∷◌, if◌then◌else◌, length, slice_index_or, arith, inl, inr, refl, sym, ap}
use Rattle.std.specs.List.{flat_map, range_with_len}
use Rattle.std.proofs.lemmas.Bool.{ne_eqb}
use Rattle.std.proofs.lemmas.Bool.Decides.{eqb_tells}
use Rattle.ttp_model.specs.declared.parts.Message.{Message}
use Rattle.ttp_model.specs.Instance as instance
use Rattle.ttp_model.specs.Totals.{total}
use Rattle.ttp_model.proofs.Totals.{total_same}
use Rattle.rates_model.specs.Rates.{Rates, message_at}
use Rattle.endless_schedules.specs.Stores.{job_index}
use Rattle.endless_schedules.specs.Unrolled.{job_message, messages_of, readers, sent_of, unrolled, unrolled_messages}
use Rattle.endless_schedules.specs.Sent.{sender_jobs, sends, sent_place}
use Rattle.endless_schedules.proofs.JoinedPieces.{piece_at, pieces_length, split, within_total}

-- one, or none where there are none
abbrev one_of : ℕ → ℕ
one_of n = if n == 0 then 0 else 1

none_or_one : (n : ℕ) → 0 < one_of n → 0 < n
none_or_one n h = elim (eqb_tells n 0) [
  | inl none ↦ absurd (let z : 0 < 0 = rw none.0 at h in omega (arith, z))
  | inr some ↦ omega (arith, some.1)
]

one_there : (n : ℕ) → 0 < n → one_of n ≡ 1
one_there n h = rw (ne_eqb n 0 (λ none. omega (arith, none, h))) refl

long_or_none : (n : ℕ) (x : Message) → length (if n == 0 then [] else x ∷ []) ≡ one_of n
long_or_none n x = elim (eqb_tells n 0) [ inl none ↦ rw none.0 refl | inr some ↦ rw some.0 refl ]

first_there : (n : ℕ) (x d : Message) → 0 < n → slice_index_or (if n == 0 then [] else x ∷ []) 0 d ≡ x
first_there n x d h = rw (ne_eqb n 0 (λ none. omega (arith, none, h))) refl

module _ (rho : Rates) where
  -- what job k makes of message m is sent
  abbrev pub IsSent : ℕ → ℕ → Type 0
  IsSent m k = (m < length rho.messages) × (k < sender_jobs rho m) × (0 < length (readers rho m k))

  sent_long : (m k : ℕ) → length (sent_of rho m k) ≡ sends rho m k
  unfolding sent_of
  sent_long m k = long_or_none (length (readers rho m k)) (job_message rho m k)

  -- how many messages the jobs make of message m
  abbrev pub sent_in_all : ℕ → ℕ
  sent_in_all m = total (sends rho m) (sender_jobs rho m)

  messages_long : (m : ℕ) → length (messages_of rho m) ≡ sent_in_all m
  unfolding messages_of
  messages_long m = pieces_length (sent_of rho m) (sender_jobs rho m) ∙ total_same (λ k. length (sent_of rho m k)) (sends rho m) (sender_jobs rho m) (λ k below. sent_long m k)

  messages_before : (m : ℕ) → total (λ x. length (messages_of rho x)) m ≡ total sent_in_all m
  messages_before m = total_same (λ x. length (messages_of rho x)) sent_in_all m (λ k below. messages_long k)

  sent_before : (m k : ℕ) → total (λ x. length (sent_of rho m x)) k ≡ total (sends rho m) k
  sent_before m k = total_same (λ x. length (sent_of rho m x)) (sends rho m) k (λ x below. sent_long m x)

  pub all_sent : length (unrolled_messages rho) ≡ total sent_in_all (length rho.messages)
  all_sent = pieces_length (messages_of rho) (length rho.messages) ∙ messages_before (length rho.messages)

  pub place_is : (m k : ℕ) → sent_place rho m k ≡ total sent_in_all m + total (sends rho m) k
  unfolding sent_place
  place_is m k = refl

  one_sent : (m k : ℕ) → IsSent m k → sends rho m k ≡ 1
  one_sent m k there = one_there (length (readers rho m k)) there.2

  within_message : (m k : ℕ) → IsSent m k → total (sends rho m) k < sent_in_all m
  within_message m k there = omega (arith, within_total (sends rho m) (sender_jobs rho m) k 0 there.1 (omega (arith, one_sent m k there)))

  pub sent_inside : (m k : ℕ) → IsSent m k → sent_place rho m k < length (unrolled_messages rho)
  sent_inside m k there = omega (arith, all_sent, place_is m k, within_total sent_in_all (length rho.messages) m (total (sends rho m) k) there.0 (within_message m k there))

  of_message : (m k : ℕ) → IsSent m k → slice_index_or (messages_of rho m) (total (sends rho m) k) instance.no_message ≡ job_message rho m k
  unfolding messages_of sent_of
  of_message m k there =
      let is : total (sends rho m) k ≡ total (λ x. length (sent_of rho m x)) k + 0 = omega (arith, sent_before m k) in
      let here : 0 < length (sent_of rho m k) = omega (arith, sent_long m k, one_sent m k there) in
      ap (λ x. slice_index_or (messages_of rho m) x instance.no_message) is
      ∙ (piece_at (sent_of rho m) (sender_jobs rho m) k 0 instance.no_message there.1 here
      ∙ first_there (length (readers rho m k)) (job_message rho m k) instance.no_message there.2)

  pub sent_at : (m k : ℕ) → IsSent m k → instance.message_at (unrolled rho) (sent_place rho m k) ≡ job_message rho m k
  sent_at m k there =
      let place = total (sends rho m) k in
      let is : sent_place rho m k ≡ total (λ x. length (messages_of rho x)) m + place = omega (arith, place_is m k, messages_before m) in
      let here : place < length (messages_of rho m) = omega (arith, messages_long m, within_message m k there) in
      ap (λ x. slice_index_or (unrolled_messages rho) x instance.no_message) is
      ∙ (piece_at (messages_of rho) (length rho.messages) m place instance.no_message there.0 here
      ∙ of_message m k there)

  -- each place is one's
  pub sent_from_place : (x : ℕ) → x < length (unrolled_messages rho) → (m : ℕ) × (k : ℕ) × IsSent m k × (sent_place rho m k ≡ x)
  sent_from_place x inside =
      let at = split sent_in_all (length rho.messages) x (omega (arith, inside, all_sent)) in
      let within = split (sends rho at.0) (sender_jobs rho at.0) at.1 at.3 in
      let some : 0 < sends rho at.0 within.0 = omega (arith, within.3) in
      let read = none_or_one (length (readers rho at.0 within.0)) some in
      let there : IsSent at.0 within.0 = (at.2, within.2, read) in
      (at.0, within.0, there, omega (arith, place_is at.0 within.0, at.4, within.4, within.3, one_sent at.0 within.0 there))

  pub sender_is : (m k : ℕ) → IsSent m k → (instance.message_at (unrolled rho) (sent_place rho m k)).sender ≡ job_index rho (message_at rho m).sender k
  unfolding job_message
  sender_is m k there = ap (λ (x : Message). x.sender) (sent_at m k there)

  pub receivers_are : (m k : ℕ) → IsSent m k → (instance.message_at (unrolled rho) (sent_place rho m k)).receivers ≡ readers rho m k
  unfolding job_message
  receivers_are m k there = ap (λ (x : Message). x.receivers) (sent_at m k there)

  pub bytes_are : (m k : ℕ) → IsSent m k → (instance.message_at (unrolled rho) (sent_place rho m k)).bytes ≡ (message_at rho m).bytes
  unfolding job_message
  bytes_are m k there = ap (λ (x : Message). x.bytes) (sent_at m k there)
