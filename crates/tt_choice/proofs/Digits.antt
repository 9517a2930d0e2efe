-- How many binary digits a number has.
use Rattle.std.proofs.Common.{◌≡◌, ℕ, zero, suc, ◌-◌, ◌*◌, ◌^◌, ◌<◌, ◌≤◌, arith, inl, inr, ap}
use Rattle.std.specs.Int.Digits.{digits_of}
use Rattle.std.proofs.lemmas.Bool.{cases_lt, cases_eq}
use Rattle.std.proofs.lemmas.Int.Digits.{number_lt, number_digits_of, all_below_base_digits_of, length-digits_of-le}
use Rattle.std.proofs.lemmas.Nat.{leading_length, pow_below}
use Rattle.std.proofs.Math.Nat.{pow-suc}
use lib.Count.{count_leading_zeros}
use Rattle.tt_choice.specs.Sizes.{binary_digits}

power_suc : (k : ℕ) → 2 ^ suc k ≡ 2 * 2 ^ k
power_suc k = omega (arith, pow-suc 2 k)

-- a number is below 2 to the power of its digits
pub below_power : (n : ℕ) → n < 2 ^ binary_digits n
below_power n =
    let number = number_lt 2 (digits_of 2 n) (all_below_base_digits_of 2 n (omega arith)) in
    omega (arith, number, number_digits_of 2 n (omega arith))

-- the half of a range has fewer digits
pub half_digits : (d x : ℕ) → 0 < d → 2 * x ≤ d → binary_digits x < binary_digits d
half_digits d x some half = elim (cases_lt 0 (binary_digits d)) [
  | inl digits ↦
      let whole = below_power d in
      let less = power_less (binary_digits d) digits in
      let below : x < 2 ^ (binary_digits d - 1) = omega (arith, half, whole, less) in
      let few = length-digits_of-le 2 (binary_digits d - 1) x (omega arith) below in
      omega (arith, few, digits)
  | inr none ↦
      let zero_digits : binary_digits d ≡ 0 = omega (arith, none) in
      absurd (none_below d (binary_digits d) zero_digits (below_power d) some)
]
  where
    power_less : (k : ℕ) → 0 < k → 2 ^ k ≡ 2 * 2 ^ (k - 1)
    power_less zero h = absurd (omega arith)
    power_less (suc k) h = let less : suc k - 1 ≡ k = omega arith in rw less (power_suc k)

    none_below : (n k : ℕ) → k ≡ 0 → n < 2 ^ k → 0 < n → ⊥
    none_below n k is below above = omega (arith, rw is at below)

-- no digits are none
pub digits_le : (x d : ℕ) → x ≤ d → binary_digits x ≤ binary_digits d
digits_le x d le = length-digits_of-le 2 (binary_digits d) x (omega arith) (omega (arith, le, below_power d))

power_le : (j k : ℕ) → j ≤ k → 2 ^ j ≤ 2 ^ k
power_le j k le = elim (cases_eq j k) [
  | inl same ↦ omega (arith, ap (λ n. 2 ^ n) same)
  | inr differ ↦ omega (arith, pow_below j k (omega (arith, differ)))
]

-- the digits of a number of 32 bits are those without its leading zeros
pub digits_by_zeros : (n : ℕ) → n < 2 ^ 32 → 32 - count_leading_zeros 32 n ≡ binary_digits n
digits_by_zeros n small =
    let rest = leading_length 32 n small in
    let few = length-digits_of-le 2 rest.0 n (omega arith) rest.2 in
    elim (cases_lt (binary_digits n) rest.0) [
      | inl fewer ↦
          let power = power_le (suc (binary_digits n)) rest.0 (omega (arith, fewer)) in
          absurd (omega (arith, below_power n, power, rest.3, power_suc (binary_digits n)))
      | inr enough ↦ omega (arith, few, enough, rest.1)
    ]
