-- How a list is read item by item: what the first items state, and then the next one.
use Rattle.std.proofs.Common.{◌≡◌, ℕ, ◌+◌, ◌<◌, ◌≤◌, List, [], ◌∷◌, ◌++◌, map, length, length-take, get_or, take, drop, Ok, Err, refl, sym, ap, ◌∙◌, arith, add-zero}
use Rattle.std.proofs.lemmas.List.{take_more, drop_more, take_all, take-map, length-map, get_or-map}
use Rattle.std.proofs.Math.ListN.{take-append-drop}
use Rattle.rates_text.specs.declared.error.RatesTextError.{RatesTextError}
use Rattle.rates_text.specs.Kinds.{Stated, ◌>>=◌, each}

bind_ok : {A : Type 0} (s : Stated (List A)) → s ≡ s >>= (λ ys. Ok ([] ++ ys))
bind_ok (Ok ys) = refl
bind_ok (Err e) = refl

regrouped : {A : Type 0} (s : Stated A) (t u : Stated (List A))
    → s >>= (λ y. (t >>= (λ ys. u >>= (λ ws. Ok (ys ++ ws)))) >>= (λ rest. Ok (y ∷ rest)))
    ≡ (s >>= (λ y. t >>= (λ ys. Ok (y ∷ ys)))) >>= (λ ys. u >>= (λ ws. Ok (ys ++ ws)))
regrouped (Ok y) (Ok ys) (Ok ws) = refl
regrouped (Ok y) (Ok ys) (Err e) = refl
regrouped (Ok y) (Err e) u = refl
regrouped (Err e) t u = refl

module _ {A B : Type 0} (read : ℕ → A → Stated B) where
  -- first the front, and then the rest
  pub each-append : (start : ℕ) (xs zs : List A)
      → each read start (xs ++ zs) ≡ each read start xs >>= (λ ys. each read (start + length xs) zs >>= (λ ws. Ok (ys ++ ws)))
  each-append start [] zs = rw add-zero (bind_ok (each read start zs))
  each-append start (x ∷ xs) zs =
      let same : start + length (x ∷ xs) ≡ (start + 1) + length xs = omega arith in
      rw (each-append (start + 1) xs zs, same) (regrouped (read start x) (each read (start + 1) xs) _)

  -- one item more
  pub each-take_more : (xs : List A) (i : ℕ) (x : A) (ys : List B) (y : B) → i < length xs → x ≡ get_or xs i x
      → each read 0 (take i xs) ≡ Ok ys → read i x ≡ Ok y → each read 0 (take (i + 1) xs) ≡ Ok (ys ++ y ∷ [])
  each-take_more xs i x ys y within here front reads =
      let at_i : 0 + length (take i xs) ≡ i = omega (arith, length-take i xs) in
      rw (take_more xs i x within, ← here, each-append 0 (take i xs) (x ∷ []), front, at_i, reads) refl

  -- the first item with a fault
  pub each-fault : (xs : List A) (i : ℕ) (x : A) (ys : List B) (e : RatesTextError) → i < length xs → x ≡ get_or xs i x
      → each read 0 (take i xs) ≡ Ok ys → read i x ≡ Err e → each read 0 xs ≡ Err e
  each-fault xs i x ys e within here front reads =
      let at_i : 0 + length (take i xs) ≡ i = omega (arith, length-take i xs) in
      let split : xs ≡ take i xs ++ (x ∷ drop (i + 1) xs) =
      sym (take-append-drop i xs) ∙ ap (λ t. take i xs ++ t) (drop_more xs i x within ∙ ap (λ y. y ∷ drop (i + 1) xs) (sym here)) in
      ap (each read 0) split ∙ rw (each-append 0 (take i xs) (x ∷ drop (i + 1) xs), front, at_i, reads) refl

  -- the last item is behind
  pub each-take_all : (xs : List A) (i : ℕ) (ys : List B) → length xs ≤ i → each read 0 (take i xs) ≡ Ok ys → each read 0 xs ≡ Ok ys
  each-take_all xs i ys past front = ap (each read 0) (sym (take_all i xs past)) ∙ front

  -- a list that was changed item by item
  pub each-map : {C : Type 0} (f : C → A) (start : ℕ) (xs : List C) → each read start (map f xs) ≡ each (λ k x. read k (f x)) start xs
  each-map f start [] = refl
  each-map f start (x ∷ xs) = rw (each-map f (start + 1) xs) refl

  module _ {C : Type 0} (f : C → A) (xs : List C) (i : ℕ) (x : C) (ys : List B) (within : i < length xs) (here : x ≡ get_or xs i x)
      (front : each read 0 (map f (take i xs)) ≡ Ok ys) where
    changed_here : f x ≡ get_or (map f xs) i (f x)
    changed_here = ap f here ∙ sym (get_or-map f xs i x (f x) within)

    changed_within : i < length (map f xs)
    changed_within = rw length-map within

    -- one item more of a list that was changed item by item
    pub each_map-take_more : (y : B) → read i (f x) ≡ Ok y → each read 0 (map f (take (i + 1) xs)) ≡ Ok (ys ++ y ∷ [])
    each_map-take_more y reads =
        rw (← take-map f (i + 1) xs) (each-take_more (map f xs) i (f x) ys y changed_within changed_here (rw take-map front) reads)

    -- and the first item with a fault
    pub each_map-fault : (e : RatesTextError) → read i (f x) ≡ Err e → each read 0 (map f xs) ≡ Err e
    each_map-fault e reads = each-fault (map f xs) i (f x) ys e changed_within changed_here (rw take-map front) reads
