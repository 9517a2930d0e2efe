-- The rounds that divide a period, found one after another.
use Rattle.std.proofs.Common.{ℕ, ◌+◌, ◌-◌, ◌<◌, ◌≤◌, List, [], ◌∷◌, ◌++◌, arith, inl, inr}
use Rattle.std.proofs.Math.Nat.{mod-one, mod_self}
use Rattle.std.proofs.lemmas.Bool.{cases_eq, cases_lt}
use Rattle.std.proofs.lemmas.List.Elements.{All-push, Contains-append_left, Contains-push}
use Rattle.std.proofs.lemmas.List.Quantifiers.{all_pairs_push}
use Rattle.plan_cycles.specs.Divisors.{AreDivisors, Divides, IsGreatestUpTo, IsLeastFrom}

pub no_divisors : (period : ℕ) → AreDivisors period 1 []
no_divisors period = record {
  each = λ k d inside. absurd (omega (arith, inside));
  below = λ k d inside. absurd (omega (arith, inside));
  rising = λ j k d less inside. absurd (omega (arith, inside));
  all = λ round some below is. absurd (omega (arith, some, below));
}

module _ (period ticks : ℕ) (rounds : List ℕ) (are : AreDivisors period ticks rounds) where
  pub divisor_taken : Divides ticks period → AreDivisors period (ticks + 1) (rounds ++ ticks ∷ [])
  divisor_taken divides = record {
    each = All-push (λ round. Divides round period) rounds ticks are.each divides;
    below = All-push (λ round. round < ticks + 1) rounds ticks (λ k d inside. omega (arith, are.below k d inside)) (omega arith);
    rising = all_pairs_push (λ one other. one < other) rounds ticks are.rising are.below;
    all = λ round some below is. elim (cases_eq round ticks) [
      | inl same ↦ rw same (Contains-push rounds ticks)
      | inr other ↦ Contains-append_left rounds (ticks ∷ []) round (are.all round some (omega (arith, below, other)) is)
    ];
  }

  pub divisor_left : ¬ Divides ticks period → AreDivisors period (ticks + 1) rounds
  divisor_left fails = record {
    each = are.each;
    below = λ k d inside. omega (arith, are.below k d inside);
    rising = are.rising;
    all = λ round some below is. elim (cases_eq round ticks) [
      | inl same ↦ absurd (fails (rw same at is))
      | inr other ↦ are.all round some (omega (arith, below, other)) is
    ];
  }

-- none of those between two numbers divides the period
abbrev pub NoneBetween : ℕ → ℕ → ℕ → Type 0
NoneBetween period least most = (round : ℕ) → least < round → round ≤ most → ¬ Divides round period

pub one_less : (period least most : ℕ) → 0 < least → NoneBetween period least most → ¬ Divides least period → NoneBetween period (least - 1) most
one_less period least most some none fails round above within is = elim (cases_eq round least) [
  | inl same ↦ fails (rw same at is)
  | inr other ↦ none round (omega (arith, above, other, some)) within is
]

pub greatest_found : (period least most : ℕ) → least ≤ most → NoneBetween period least most → Divides least period → IsGreatestUpTo period most least
greatest_found period least most within none divides = record {
  divides = divides;
  within = within;
  greatest = λ other is below. elim (cases_lt least other) [ inl above ↦ absurd (none other above below is) | inr le ↦ le ];
}

-- a round of one tick divides each period
pub some_found : (period most : ℕ) → 0 < most → ¬ NoneBetween period 0 most
some_found period most some none = none 1 (omega arith) (omega (arith, some)) (mod-one period)

-- none of those from one number on up to another divides the period
abbrev pub NoneFrom : ℕ → ℕ → ℕ → Type 0
NoneFrom period least limit = (round : ℕ) → least ≤ round → round < limit → ¬ Divides round period

pub one_more : (period least limit : ℕ) → NoneFrom period least limit → ¬ Divides limit period → NoneFrom period least (limit + 1)
one_more period least limit none fails round above within is = elim (cases_eq round limit) [
  | inl same ↦ fails (rw same at is)
  | inr other ↦ none round above (omega (arith, within, other)) is
]

pub least_found : (period least limit : ℕ) → least ≤ limit → NoneFrom period least limit → Divides limit period → IsLeastFrom period least limit
least_found period least limit within none divides = record {
  divides = divides;
  within = within;
  shortest = λ other is above. elim (cases_lt other limit) [ inl below ↦ absurd (none other above below is) | inr le ↦ le ];
}

-- a period of one round divides itself
pub whole_found : (period least : ℕ) → least ≤ period → NoneFrom period least period → IsLeastFrom period least period
whole_found period least within none = least_found period least period within none (mod_self period)
