-- What the frames carry of all messages of the instance of one cycle is what they carry of all jobs that are read.
use Rattle.std.proofs.Common.{◌≡◌, ◌≢◌, ◌∙◌, ℕ, zero, suc, ◌+◌, ◌<◌, ◌≤◌, ◌==◌, if◌then◌else◌, length, arith, inl, inr, refl, sym, ap}
use Rattle.std.proofs.lemmas.Bool.{cases_eq}
use Rattle.std.proofs.lemmas.Bool.Decides.{eqb_tells}
use Rattle.ttp_model.specs.Totals.{total}
use Rattle.ttp_model.proofs.Totals.{total_more, total_none, total_same}
use Rattle.rates_model.specs.Rates.{Rates}
use Rattle.endless_schedules.specs.Unrolled.{readers, unrolled_messages}
use Rattle.endless_schedules.specs.Sent.{sender_jobs, sends, sent_place}
use Rattle.endless_schedules.proofs.JoinedPieces.{total_pieces}
use Rattle.endless_schedules.proofs.SentPlaces.{all_sent, place_is, sent_in_all}

-- a sum all of whose terms but one are nothing
pub one_term : (f : ℕ → ℕ) (count x : ℕ) → ((k : ℕ) → k ≢ x → f k ≡ 0) → total f count ≤ f x
one_term f zero x others = omega arith
one_term f (suc count) x others = elim (cases_eq count x) [
  | inl same ↦ omega (arith, total_more f count, total_none f count (λ k below. others k (λ is. omega (arith, is, below, same))), ap f same)
  | inr other ↦ omega (arith, total_more f count, one_term f count x others, others count other)
]

none_or_first : (n : ℕ) (f : ℕ → ℕ) → total f (if n == 0 then 0 else 1) ≡ (if n == 0 then 0 else f 0)
none_or_first n f = elim (eqb_tells n 0) [
  | inl none ↦ rw none.0 refl
  | inr some ↦ rw some.0 (omega (arith, total_more f 0))
]

if_same : (n x y : ℕ) → x ≡ y → (if n == 0 then 0 else x) ≡ (if n == 0 then 0 else y)
if_same n x y same = ap (λ z. if n == 0 then 0 else z) same

module _ (rho : Rates) (f : ℕ → ℕ) where
  -- a term for each job that is read
  abbrev pub of_job : ℕ → ℕ → ℕ
  of_job m k = if length (readers rho m k) == 0 then 0 else f (sent_place rho m k)

  one_job : (m k : ℕ) → total (λ z. f (total (sent_in_all rho) m + (total (sends rho m) k + z))) (sends rho m k) ≡ of_job m k
  one_job m k =
      let place : total (sent_in_all rho) m + (total (sends rho m) k + 0) ≡ sent_place rho m k = omega (arith, place_is rho m k) in
      none_or_first (length (readers rho m k)) (λ z. f (total (sent_in_all rho) m + (total (sends rho m) k + z)))
      ∙ if_same (length (readers rho m k)) _ _ (ap f place)

  one_message : (m : ℕ) → total (λ y. f (total (sent_in_all rho) m + y)) (sent_in_all rho m) ≡ total (of_job m) (sender_jobs rho m)
  one_message m =
      total_pieces (λ y. f (total (sent_in_all rho) m + y)) (sends rho m) (sender_jobs rho m)
      ∙ total_same (λ k. total (λ z. f (total (sent_in_all rho) m + (total (sends rho m) k + z))) (sends rho m k)) (of_job m) (sender_jobs rho m) (λ k below. one_job m k)

  pub by_jobs : total f (length (unrolled_messages rho)) ≡ total (λ m. total (of_job m) (sender_jobs rho m)) (length rho.messages)
  by_jobs =
      ap (total f) (all_sent rho)
      ∙ (total_pieces f (sent_in_all rho) (length rho.messages)
      ∙ total_same (λ m. total (λ y. f (total (sent_in_all rho) m + y)) (sent_in_all rho m)) (λ m. total (of_job m) (sender_jobs rho m)) (length rho.messages) (λ m below. one_message m))
