-- Lists that a loop makes of another one, item by item.
use Rattle.std.proofs.Common.{◌≡◌, ℕ, ◌+◌, ◌<◌, ◌≤◌, List, [], ◌∷◌, ◌++◌, length, get_or, take, map, sym, ap, ◌∙◌}
use Rattle.std.proofs.lemmas.List.{take_more, take_all, map_more}

-- one number more
pub copied_more : (xs : List ℕ) (k y : ℕ) (old new : List ℕ) → k < length xs → y ≡ get_or xs k 0 → old ≡ take k xs
    → new ≡ old ++ y ∷ [] → new ≡ take (k + 1) xs
copied_more xs k y old new inside is so_far more =
    more ∙ ap (λ (ys : List ℕ). ys ++ y ∷ []) so_far ∙ ap (λ (z : ℕ). take k xs ++ z ∷ []) is ∙ sym (take_more xs k 0 inside)

module _ {A : Type 0} (f : A → ℕ) (xs : List A) (k : ℕ) where
  -- what is made of one item more
  pub made_more : (d : A) (y : ℕ) (old new : List ℕ) → k < length xs → y ≡ f (get_or xs k d) → old ≡ map f (take k xs)
      → new ≡ old ++ y ∷ [] → new ≡ map f (take (k + 1) xs)
  made_more d y old new inside is so_far more =
      more ∙ ap (λ (ys : List ℕ). ys ++ y ∷ []) so_far ∙ ap (λ (z : ℕ). map f (take k xs) ++ z ∷ []) is ∙ sym (map_more f xs k d inside)

  -- what is made of all of them
  pub made_all : (new : List ℕ) → length xs ≤ k → new ≡ map f (take k xs) → new ≡ map f xs
  made_all new all so_far = so_far ∙ ap (map f) (take_all k xs all)
