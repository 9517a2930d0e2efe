-- Lists that a loop copies number by number.
use Rattle.std.proofs.Common.{◌≡◌, ℕ, ◌+◌, ◌<◌, ◌≤◌, List, [], ◌∷◌, ◌++◌, length, get_or, take, map, refl, sym, ap, ◌∙◌, arith}
use Rattle.std.proofs.lemmas.List.{take_more, take_all, map-append}

-- one number more
pub copied_more : (xs : List ℕ) (m n x : ℕ) (old new : List ℕ) → length xs ≡ n → m < n → x ≡ get_or xs m 0 → old ≡ take m xs → new ≡ old ++ x ∷ [] → new ≡ take (m + 1) xs
copied_more xs m n x old new size lt is so_far more =
    let inside : m < length xs = omega (arith, size, lt) in
    more ∙ ap (λ (t : List ℕ). t ++ x ∷ []) so_far ∙ ap (λ (y : ℕ). take m xs ++ y ∷ []) is ∙ sym (take_more xs m 0 inside)

-- all of them
pub copied : (xs : List ℕ) (m n : ℕ) (new : List ℕ) → length xs ≡ n → n ≤ m → new ≡ take m xs → new ≡ xs
copied xs m n new size le so_far = so_far ∙ take_all m xs (omega (arith, size, le))

-- what is made of one number more
pub mapped_more : (f : ℕ → ℕ) (xs : List ℕ) (m n x : ℕ) (old new : List ℕ) → length xs ≡ n → m < n → x ≡ get_or xs m 0 → old ≡ map f (take m xs) → new ≡ old ++ f x ∷ [] → new ≡ map f (take (m + 1) xs)
mapped_more f xs m n x old new size lt is so_far more =
    let taken : take m xs ++ x ∷ [] ≡ take (m + 1) xs = copied_more xs m n x (take m xs) (take m xs ++ x ∷ []) size lt is refl refl in
    more ∙ ap (λ (t : List ℕ). t ++ f x ∷ []) so_far ∙ sym (map-append f (take m xs) (x ∷ [])) ∙ ap (map f) taken

-- what is made of all of them
pub mapped : (f : ℕ → ℕ) (xs : List ℕ) (m n : ℕ) (new : List ℕ) → length xs ≡ n → n ≤ m → new ≡ map f (take m xs) → new ≡ map f xs
mapped f xs m n new size le so_far = so_far ∙ ap (map f) (copied xs m n (take m xs) size le refl)
