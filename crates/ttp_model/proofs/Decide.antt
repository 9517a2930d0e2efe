-- Facts that hold or don't: how such facts are put together from others.
use Rattle.std.proofs.Common.{◌≡◌, ℕ, zero, suc, Bool, true, false, IsTrue, ◌<◌, ◌≤◌, ◌⊎◌, List, [], ◌∷◌, length, slice_index_or, get_or, Contains, arith, inl, inr, refl, ap, ap₂}
use Rattle.std.proofs.lemmas.Bool.{cases_lt, cases_order, false≢true}

-- a fact holds or it doesn't
abbrev pub Decision : Type 0 → Type 0
Decision P = P ⊎ ¬ P

pub like : (P Q : Type 0) → (P → Q) → (Q → P) → Decision P → Decision Q
like P Q there back d = elim d [ inl holds ↦ inl (there holds) | inr fails ↦ inr (λ q. fails (back q)) ]

pub both : (P Q : Type 0) → Decision P → Decision Q → Decision (P × Q)
both P Q d e = elim d [
  | inl p ↦ elim e [ inl q ↦ inl (p, q) | inr fails ↦ inr (λ both. fails both.1) ]
  | inr fails ↦ inr (λ both. fails both.0)
]

pub one_of : (P Q : Type 0) → Decision P → Decision Q → Decision (P ⊎ Q)
one_of P Q d e = elim d [
  | inl p ↦ inl (inl p)
  | inr fails ↦ elim e [ inl q ↦ inl (inr q) | inr none ↦ inr (λ either. elim either [ inl p ↦ fails p | inr q ↦ none q ]) ]
]

pub implied : (P Q : Type 0) → Decision P → Decision Q → Decision (P → Q)
implied P Q d e = elim e [
  | inl q ↦ inl (λ _. q)
  | inr none ↦ elim d [ inl p ↦ inr (λ leads. none (leads p)) | inr fails ↦ inl (λ p. absurd (fails p)) ]
]

pub refuted : (P : Type 0) → Decision P → Decision (¬ P)
refuted P d = elim d [ inl p ↦ inr (λ fails. fails p) | inr fails ↦ inl fails ]

pub equal : (a b : ℕ) → Decision (a ≡ b)
equal a b = elim (cases_order a b) [
  | inl same ↦ inl same
  | inr other ↦ elim other [ inl below ↦ inr (λ same. omega (arith, below, same)) | inr above ↦ inr (λ same. omega (arith, above, same)) ]
]

pub below : (a b : ℕ) → Decision (a < b)
below a b = elim (cases_lt a b) [ inl holds ↦ inl holds | inr fails ↦ inr (λ holds. omega (arith, holds, fails)) ]

pub at_most : (a b : ℕ) → Decision (a ≤ b)
at_most a b = elim (cases_lt b a) [ inl fails ↦ inr (λ holds. omega (arith, holds, fails)) | inr holds ↦ inl holds ]

pub is_true : (b : Bool) → Decision (IsTrue b)
is_true true = inl refl
is_true false = inr (λ holds. false≢true holds)

-- at each index below n, or not
pub each_below : (P : ℕ → Type 0) (n : ℕ) → ((k : ℕ) → Decision (P k)) → Decision ((k : ℕ) → k < n → P k)
each_below P zero d = inl (λ k h. absurd (omega (arith, h)))
each_below P (suc n) d = elim (d n) [
  | inr fails ↦ inr (λ each. fails (each n (omega arith)))
  | inl here ↦ elim (each_below P n d) [
    | inr fails ↦ inr (λ each. fails (λ k h. each k (omega (arith, h))))
    | inl before ↦ inl (λ k h. elim (cases_order k n) [
      | inl same ↦ subst_at k same here
      | inr other ↦ elim other [ inl less ↦ before k less | inr more ↦ absurd (omega (arith, more, h)) ]
    ])
  ]
]
  where
    subst_at : (k : ℕ) → k ≡ n → P n → P k
    subst_at k same here = rw same here

-- at some index below n, or at none
pub some_below : (P : ℕ → Type 0) (n : ℕ) → ((k : ℕ) → Decision (P k)) → Decision ((k : ℕ) × (k < n) × P k)
some_below P n d = elim (each_below (λ k. ¬ P k) n (λ k. refuted (P k) (d k))) [
  | inl none ↦ inr (λ some. none some.0 some.1 some.2)
  | inr not_none ↦ inl (search_below n not_none)
]
  where
    search_below : (m : ℕ) → ¬ ((k : ℕ) → k < m → ¬ P k) → (k : ℕ) × (k < m) × P k
    search_below zero h = absurd (h (λ k lt. absurd (omega (arith, lt))))
    search_below (suc m) h = elim (d m) [
      | inl here ↦ (m, omega arith, here)
      | inr fails ↦ (let rest = search_below m (λ none. h (λ k lt. elim (cases_order k m) [
        | inl same ↦ rw same fails
        | inr other ↦ elim other [ inl less ↦ none k less | inr more ↦ absurd (omega (arith, more, lt)) ]
      ])) in (rest.0, omega (arith, rest.1), rest.2))
    ]

pub equal_lists : (xs ys : List ℕ) → Decision (xs ≡ ys)
equal_lists [] [] = inl refl
equal_lists [] (y ∷ ys) = inr (λ same. let long = ap length same in omega (arith, long))
equal_lists (x ∷ xs) [] = inr (λ same. let long = ap length same in omega (arith, long))
equal_lists (x ∷ xs) (y ∷ ys) = elim (equal x y) [
  | inr fails ↦ inr (λ same. fails (ap (λ l. get_or l 0 0) same))
  | inl first ↦ elim (equal_lists xs ys) [
    | inl rest ↦ inl (ap₂ (λ z zs. z ∷ zs) first rest)
    | inr fails ↦ inr (λ same. fails (ap tail same))
  ]
]
  where
    tail : List ℕ → List ℕ
    tail [] = []
    tail (z ∷ zs) = zs

pub contained : (xs : List ℕ) (x : ℕ) → Decision (Contains xs x)
contained xs x = some_below (λ k. slice_index_or xs k x ≡ x) (length xs) (λ k. equal (slice_index_or xs k x) x)
