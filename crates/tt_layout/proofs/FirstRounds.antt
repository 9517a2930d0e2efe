-- The round that the division answers is late enough, and no lesser one is.
use Rattle.std.proofs.Common.{◌≡◌, ℕ, ◌+◌, ◌-◌, ◌*◌, ◌/◌, ◌<◌, ◌≤◌, arith, refl}
use Rattle.std.proofs.Math.Nat.{lt-div-mul-add, div-lt_iff_lt-mul}
use Rattle.ttp_model.specs.Slots.{round_length, offset}
use Rattle.tt_layout.specs.Layout.{Layout, IsFirstRound}

pub first_round : (t : Layout) (n time : ℕ) → 0 < round_length t.cluster t.caps → offset t.cluster t.order t.caps n < time → IsFirstRound t n time ((time - offset t.cluster t.order t.caps n - 1) / round_length t.cluster t.caps + 1)
first_round t n time some later =
    let round : ℕ = round_length t.cluster t.caps in
    let rest : ℕ = time - offset t.cluster t.order t.caps n - 1 in
    record {
      late_enough = late_enough rest round (offset t.cluster t.order t.caps n) time some later refl;
      least = λ r h. least rest round (offset t.cluster t.order t.caps n) time r some later refl h;
    }
  where
    late_enough : (rest round offset time : ℕ) → 0 < round → offset < time → rest ≡ time - offset - 1 → time ≤ (rest / round + 1) * round + offset
    late_enough rest round offset time some later is = omega (arith, lt-div-mul-add {a = rest} some)

    least : (rest round offset time r : ℕ) → 0 < round → offset < time → rest ≡ time - offset - 1 → time ≤ r * round + offset → rest / round + 1 ≤ r
    least rest round offset time r some later is h =
        let below : rest < r * round = omega arith in
        let lt : rest / round < r = (div-lt_iff_lt-mul {k = round} {x = rest} {y = r} some).1 below in
        omega arith
