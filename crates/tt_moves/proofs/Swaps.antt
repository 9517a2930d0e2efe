-- Lists in which two places were exchanged.
use Rattle.std.proofs.Common.{◌≡◌, ◌≢◌, ℕ, ◌<◌, List, length, slice_index, swap, arith, inl, inr, refl, ◌⊎◌, ◌∙◌, sym, ap}
use Rattle.std.proofs.lemmas.Bool.{cases_eq}
use Rattle.std.proofs.lemmas.List.Edits.{swapped_from_swap}

-- where p and q are exchanged, place k gets what stood at j
abbrev pub Gets : ℕ → ℕ → ℕ → ℕ → Type 0
Gets p q k j = ((k ≡ p) × (j ≡ q)) ⊎ (((k ≡ q) × (j ≡ p)) ⊎ ((k ≢ p) × (k ≢ q) × (j ≡ k)))

pub gets_from : (p q k : ℕ) → (j : ℕ) × Gets p q k j
gets_from p q k = elim (cases_eq k p) [
  | inl same ↦ (q, inl (same, refl))
  | inr not_p ↦ elim (cases_eq k q) [ inl same ↦ (p, inr (inl (same, refl))) | inr not_q ↦ (k, inr (inr (not_p, not_q, refl))) ]
]

pub swap_at : (xs : List ℕ) (p q : ℕ) → p < length xs → q < length xs → (k j : ℕ) → Gets p q k j → slice_index (swap xs p q) k ≡ slice_index xs j
swap_at xs p q hp hq k j gets =
    let places = swapped_from_swap xs (swap xs p q) p q 0 hp hq refl in
    elim gets [
      | inl is ↦ ap (slice_index (swap xs p q)) is.0 ∙ places.0 ∙ sym (ap (slice_index xs) is.1)
      | inr others ↦ elim others [
        | inl is ↦ ap (slice_index (swap xs p q)) is.0 ∙ places.1 ∙ sym (ap (slice_index xs) is.1)
        | inr is ↦ places.2 k is.0 is.1 ∙ sym (ap (slice_index xs) is.2)
      ]
    ]

pub swap_rest : (xs : List ℕ) (p q k : ℕ) → k ≢ p → k ≢ q → p < length xs → q < length xs → slice_index (swap xs p q) k ≡ slice_index xs k
swap_rest xs p q k not_p not_q hp hq = swap_at xs p q hp hq k k (inr (inr (not_p, not_q, refl)))

-- what p and q have alike, both places have
pub gets_alike : {A : Type 0} (f : ℕ → A) (p q : ℕ) → f p ≡ f q → (k j : ℕ) → Gets p q k j → f k ≡ f j
gets_alike f p q same k j (inl is) = ap f is.0 ∙ same ∙ sym (ap f is.1)
gets_alike f p q same k j (inr (inl is)) = ap f is.0 ∙ sym same ∙ sym (ap f is.1)
gets_alike f p q same k j (inr (inr is)) = sym (ap f is.2)

pub gets_below : (p q n : ℕ) → p < n → q < n → (k j : ℕ) → k < n → Gets p q k j → j < n
gets_below p q n hp hq k j h (inl is) = omega (arith, is.1, hq)
gets_below p q n hp hq k j h (inr (inl is)) = omega (arith, is.1, hp)
gets_below p q n hp hq k j h (inr (inr is)) = omega (arith, is.2, h)

-- different places get from different ones
pub gets_apart : (p q : ℕ) → p ≢ q → (a b x y : ℕ) → a ≢ b → Gets p q a x → Gets p q b y → x ≢ y
gets_apart p q pq a b x y two (inl ia) (inl ib) = λ is. two (ia.0 ∙ sym ib.0)
gets_apart p q pq a b x y two (inl ia) (inr (inl ib)) = λ is. pq (sym ib.1 ∙ sym is ∙ ia.1)
gets_apart p q pq a b x y two (inl ia) (inr (inr ib)) = λ is. ib.1 (sym ib.2 ∙ sym is ∙ ia.1)
gets_apart p q pq a b x y two (inr (inl ia)) (inl ib) = λ is. pq (sym ia.1 ∙ is ∙ ib.1)
gets_apart p q pq a b x y two (inr (inl ia)) (inr (inl ib)) = λ is. two (ia.0 ∙ sym ib.0)
gets_apart p q pq a b x y two (inr (inl ia)) (inr (inr ib)) = λ is. ib.0 (sym ib.2 ∙ sym is ∙ ia.1)
gets_apart p q pq a b x y two (inr (inr ia)) (inl ib) = λ is. ia.1 (sym ia.2 ∙ is ∙ ib.1)
gets_apart p q pq a b x y two (inr (inr ia)) (inr (inl ib)) = λ is. ia.0 (sym ia.2 ∙ is ∙ ib.1)
gets_apart p q pq a b x y two (inr (inr ia)) (inr (inr ib)) = λ is. two (sym ia.2 ∙ is ∙ ib.2)
