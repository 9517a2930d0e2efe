-- The greatest and the least of what is seen of numbers, one after another.
use Rattle.std.proofs.Common.{◌≡◌, ◌⊎◌, ℕ, zero, suc, ◌+◌, ◌<◌, ◌≤◌, max, min, arith, inl, inr, refl, add-one}
use Rattle.std.proofs.lemmas.Bool.{cases_eq, cases_lt}
use Rattle.ttp_model.specs.Lists.{EachBelow}

-- one of f at the places below n
abbrev pub IsSeen : (ℕ → ℕ) → ℕ → ℕ → Type 0
IsSeen f n x = (k : ℕ) × (k < n) × (f k ≡ x)

-- the greatest of them, and 0 before there is one
pub record IsTop (f : ℕ → ℕ) (n x : ℕ) : Type 0 where
  pub above : EachBelow n (λ k. f k ≤ x)
  pub seen : ((n ≡ 0) × (x ≡ 0)) ⊎ IsSeen f n x

-- the least of them, and a greater one before there is one
pub record IsBottom (f : ℕ → ℕ) (most n x : ℕ) : Type 0 where
  pub below : EachBelow n (λ k. x ≤ f k)
  pub seen : ((n ≡ 0) × (x ≡ most)) ⊎ IsSeen f n x

-- one place more
seen_more : (f : ℕ → ℕ) (n x : ℕ) → IsSeen f n x → IsSeen f (n + 1) x
seen_more f n x seen = (seen.0, omega (arith, seen.1), seen.2)

module _ (f : ℕ → ℕ) (n x y z : ℕ) (is : y ≡ f n) where
  pub top_more : IsTop f n x → z ≡ max x y → IsTop f (n + 1) z
  top_more top greater = record { above = above; seen = elim (cases_lt y x) [ inl less ↦ kept less top.seen | inr new ↦ inr (n, omega arith, omega (arith, is, greater, new)) ] }
    where
      above : EachBelow (n + 1) (λ k. f k ≤ z)
      above k inside = elim (cases_eq k n) [
        | inl last ↦ rw last (omega (arith, is, greater))
        | inr other ↦ (let old = top.above k (omega (arith, inside, other)) in omega (arith, old, greater))
      ]

      kept : y < x → ((n ≡ 0) × (x ≡ 0)) ⊎ IsSeen f n x → ((n + 1 ≡ 0) × (z ≡ 0)) ⊎ IsSeen f (n + 1) z
      kept less (inl none) = absurd (omega (arith, less, none.1))
      kept less (inr seen) = inr (seen.0, omega (arith, seen.1), omega (arith, seen.2, greater, less))

  pub bottom_more : (most : ℕ) → y ≤ most → IsBottom f most n x → z ≡ min x y → IsBottom f most (n + 1) z
  bottom_more most within bottom less = record { below = below; seen = elim (cases_lt x y) [ inl greater ↦ kept greater bottom.seen | inr new ↦ inr (n, omega arith, omega (arith, is, less, new)) ] }
    where
      below : EachBelow (n + 1) (λ k. z ≤ f k)
      below k inside = elim (cases_eq k n) [
        | inl last ↦ rw last (omega (arith, is, less))
        | inr other ↦ (let old = bottom.below k (omega (arith, inside, other)) in omega (arith, old, less))
      ]

      kept : x < y → ((n ≡ 0) × (x ≡ most)) ⊎ IsSeen f n x → ((n + 1 ≡ 0) × (z ≡ most)) ⊎ IsSeen f (n + 1) z
      kept greater (inl none) = absurd (omega (arith, greater, none.1, within))
      kept greater (inr seen) = inr (seen.0, omega (arith, seen.1), omega (arith, seen.2, greater, less))

-- before all
pub top_none : (f : ℕ → ℕ) (n x : ℕ) → n ≡ 0 → x ≡ 0 → IsTop f n x
top_none f n x none is = record { above = λ k inside. absurd (omega (arith, inside, none)); seen = inl (none, is) }

pub bottom_none : (f : ℕ → ℕ) (most n x : ℕ) → n ≡ 0 → x ≡ most → IsBottom f most n x
bottom_none f most n x none is = record { below = λ k inside. absurd (omega (arith, inside, none)); seen = inl (none, is) }

-- where there is one
pub some_seen : (f : ℕ → ℕ) (n x y : ℕ) → 0 < n → ((n ≡ 0) × (x ≡ y)) ⊎ IsSeen f n x → IsSeen f n x
some_seen f n x y some (inl none) = absurd (omega (arith, some, none.0))
some_seen f n x y some (inr seen) = seen

-- there always is a greatest
pub some_top : (f : ℕ → ℕ) (n : ℕ) → (x : ℕ) × IsTop f n x
some_top f zero = (0, top_none f 0 0 refl refl)
some_top f (suc n) =
    let before = some_top f n in
    (max before.0 (f n), rw add-one at (top_more f n before.0 (f n) (max before.0 (f n)) refl before.1 refl))
