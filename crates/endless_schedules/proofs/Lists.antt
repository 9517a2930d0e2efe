-- Lists that are made one element, or one piece, after another.
use Rattle.std.proofs.Common.{◌≡◌, ◌∙◌, ℕ, ◌+◌, ◌<◌, ◌≤◌, Bool, true, false, cond, List, [], ◌∷◌, ◌++◌, length, map, filter, take, drop, get_or, append_assoc, arith, sym, ap, ap₂}
use Rattle.std.specs.List.{flat_map, range_with_len}
use Rattle.std.proofs.lemmas.List.{flat_map_more, take_more, map-append, append-nil}
use Rattle.std.proofs.lemmas.List.Concat.{flat_map-append}
use Rattle.std.proofs.lemmas.List.Elements.{filter-append}
use Rattle.std.proofs.lemmas.List.FromFn.{map-range_with_len_more}
use Rattle.std.proofs.Math.ListN.{take-append-drop, length-append}
use Rattle.ttp_model.proofs.Ranges.{range_more}

module _ {X : Type 0} (before : List X) where
  -- one element more of those of numbers
  pub map_more : (f : ℕ → X) (k : ℕ) → (before ++ map f (range_with_len 0 k)) ++ f k ∷ [] ≡ before ++ map f (range_with_len 0 (k + 1))
  map_more f k = append_assoc before (map f (range_with_len 0 k)) (f k ∷ []) ∙ ap (λ ys. before ++ ys) (sym (map-range_with_len_more f 0 k k (omega arith)))

  -- one piece more of those of numbers
  pub pieces_more : (f : ℕ → List X) (k : ℕ) → (before ++ flat_map f (range_with_len 0 k)) ++ f k ≡ before ++ flat_map f (range_with_len 0 (k + 1))
  pieces_more f k = flat_map_more f before (range_with_len 0 k) k ∙ ap (λ ys. before ++ flat_map f ys) (sym (range_more k))

  -- one piece more of those of a list's elements
  pub taken_more : {A : Type 0} (f : A → List X) (xs : List A) (i : ℕ) (d : A) → i < length xs
      → (before ++ flat_map f (take i xs)) ++ f (get_or xs i d) ≡ before ++ flat_map f (take (i + 1) xs)
  taken_more f xs i d within = flat_map_more f before (take i xs) (get_or xs i d) ∙ ap (λ ys. before ++ flat_map f ys) (sym (take_more xs i d within))

  -- one element more of those of a list's
  pub mapped_more : {A : Type 0} (f : A → X) (xs : List A) (i : ℕ) (d : A) → i < length xs
      → (before ++ map f (take i xs)) ++ f (get_or xs i d) ∷ [] ≡ before ++ map f (take (i + 1) xs)
  mapped_more f xs i d within =
      append_assoc before (map f (take i xs)) (f (get_or xs i d) ∷ [])
      ∙ ap (λ ys. before ++ ys) (sym (map-append f (take i xs) (get_or xs i d ∷ [])) ∙ ap (map f) (sym (take_more xs i d within)))

-- one element more of those of numbers, where they are made elsewhere
module _ {X : Type 0} (f : ℕ → X) (xs : List X) (x : X) (k : ℕ) (same : x ≡ f k) where
  pub grown_by : xs ≡ map f (range_with_len 0 k) → xs ++ x ∷ [] ≡ map f (range_with_len 0 (k + 1))
  grown_by so_far = ap₂ (λ ys y. ys ++ y ∷ []) so_far same ∙ sym (map-range_with_len_more f 0 k k (omega arith))

  pub grown_behind : (before : List X) → xs ≡ before ++ map f (range_with_len 0 k) → xs ++ x ∷ [] ≡ before ++ map f (range_with_len 0 (k + 1))
  grown_behind before so_far = ap₂ (λ ys y. ys ++ y ∷ []) so_far same ∙ map_more before f k

-- of those numbers that pass a test
module _ {X : Type 0} (before : List X) (f : ℕ → X) (p : ℕ → Bool) (xs : List X) (k : ℕ) (so_far : xs ≡ before ++ map f (filter p (range_with_len 0 k))) where
  filtered : (b : Bool) → p k ≡ b → filter p (range_with_len 0 (k + 1)) ≡ filter p (range_with_len 0 k) ++ cond b (k ∷ []) []
  filtered b is =
      ap (filter p) (range_more k) ∙ filter-append p (range_with_len 0 k) (k ∷ []) ∙ ap (λ (c : Bool). filter p (range_with_len 0 k) ++ cond c (k ∷ []) []) is

  pub kept_behind : (x : X) → p k ≡ true → x ≡ f k → xs ++ x ∷ [] ≡ before ++ map f (filter p (range_with_len 0 (k + 1)))
  kept_behind x is same =
      ap₂ (λ ys y. ys ++ y ∷ []) so_far same
      ∙ append_assoc before (map f (filter p (range_with_len 0 k))) (f k ∷ [])
      ∙ ap (λ ys. before ++ ys) (sym (map-append f (filter p (range_with_len 0 k)) (k ∷ [])) ∙ ap (map f) (sym (filtered true is)))

  pub left_behind : p k ≡ false → xs ≡ before ++ map f (filter p (range_with_len 0 (k + 1)))
  left_behind is = so_far ∙ ap (λ ys. before ++ map f ys) (sym (filtered false is ∙ append-nil (filter p (range_with_len 0 k))))

-- all pieces are at least as long as the first
module _ {X A : Type 0} (f : A → List X) where
  pub pieces_longer : (xs : List A) (i : ℕ) → length (flat_map f (take i xs)) ≤ length (flat_map f xs)
  pieces_longer xs i =
      let split = ap length (sym (flat_map-append f (take i xs) (drop i xs)) ∙ ap (flat_map f) (take-append-drop i xs)) in
      omega (arith, split, length-append (flat_map f (take i xs)) (flat_map f (drop i xs)))
