-- The job that a chain's process carries, from that of the process behind it, as the code computes it.
use Rattle.std.proofs.Common.{◌≡◌, ◌∙◌, ℕ, ◌+◌, ◌-◌, ◌*◌, ◌/◌, ◌^◌, ◌<◌, ◌≤◌, List, length, drop, slice_index, arith, sym, ap}
use Rattle.std.proofs.lemmas.List.FromFn.{length-map-range_with_len, get_or-map-range_with_len}
use Rattle.std.proofs.Math.Nat.{mul-le-mul}
use Rattle.ttp_model.specs.Limits.{most_ticks}
use Rattle.rates_model.specs.Rates.{Rates, period_of}
use Rattle.rates_model.specs.Ages.{carried, wait_of}
use Rattle.endless_schedules.specs.Times.{waits_along}
use Rattle.endless_schedules.proofs.Aged.{begun_small, carried_step}

-- in ticks the job with which it begins isn't too late
pub last_small : (job period : ℕ) → job ≤ 10 ^ 8 → period ≤ most_ticks → job * period ≤ 10 ^ 14
last_small job period early short = let most : job * period ≤ 10 ^ 8 * most_ticks = mul-le-mul early short in omega (arith, most)

module _ (rho : Rates) (through waits : List ℕ) (made : waits ≡ waits_along rho through) where
  pub waits_length : length waits ≡ length through - 1
  waits_length =
      ap length made ∙ length-map-range_with_len (λ (k : ℕ). wait_of rho (slice_index through k) (slice_index through (k + 1))) 0 (length through - 1)

  module _ (j k : ℕ) (within : k + 1 < length through) where
    wait_read : slice_index waits k ≡ wait_of rho (slice_index through k) (slice_index through (k + 1))
    wait_read =
        ap (λ (ws : List ℕ). slice_index ws k) made
        ∙ get_or-map-range_with_len (λ (k : ℕ). wait_of rho (slice_index through k) (slice_index through (k + 1))) 0 (length through - 1) k k 0 (omega (arith, within)) (omega arith)

    module _ (job tp tq wait now : ℕ) (of_p : tp ≡ period_of rho (slice_index through k)) (of_q : tq ≡ period_of rho (slice_index through (k + 1)))
        (is : now ≡ job * tq / tp - wait) where
      pub carried_back : job ≡ carried rho (drop (k + 1) through) j → wait ≡ slice_index waits k → now ≡ carried rho (drop k through) j
      carried_back so_far waited = rw (is, so_far, of_p, of_q, waited, wait_read) (sym (carried_step rho j through k within))

      pub carried_small : (most : ℕ) → job * period_of rho (slice_index through (k + 1)) ≤ most → now * period_of rho (slice_index through k) ≤ most
      carried_small most small = rw (is, ← of_p) (begun_small job tp tq wait most (rw of_q small))
