-- What stands in lists that are made of others.
use Rattle.std.proofs.Common.{◌≡◌, ◌∙◌, ℕ, zero, suc, ◌<◌, List, [], ◌∷◌, ◌++◌, Bool, true, false, cond, map, filter, length, get_or, All, Contains, arith, inl, inr, refl, ap}
use Rattle.std.specs.List.{flat_map, range_with_len}
use Rattle.std.proofs.lemmas.Bool.{cases_Bool, cond-false, cond-true}
use Rattle.std.proofs.lemmas.List.{get_or_default}
use Rattle.std.proofs.lemmas.List.Elements.{All-append, Contains-append_left, Contains-append_right}
use Rattle.std.proofs.lemmas.List.FromFn.{get_or-range_with_len, length-range_with_len}

map_at : {X Y : Type 0} (g : X → Y) (xs : List X) (k : ℕ) (x : X) → k < length xs → get_or xs k x ≡ x → get_or (map g xs) k (g x) ≡ g x
map_at g [] k x inside is = absurd (omega (arith, inside))
map_at g (y ∷ ys) zero x inside is = ap g is
map_at g (y ∷ ys) (suc k) x inside is = map_at g ys k x (omega (arith, inside)) is

map_longer : {X Y : Type 0} (g : X → Y) (xs : List X) (k : ℕ) → k < length xs → k < length (map g xs)
map_longer g [] k inside = absurd (omega (arith, inside))
map_longer g (y ∷ ys) zero inside = omega arith
map_longer g (y ∷ ys) (suc k) inside = omega (arith, map_longer g ys k (omega (arith, inside)))

pub Contains-map : {X Y : Type 0} (g : X → Y) (xs : List X) (x : X) → Contains xs x → Contains (map g xs) (g x)
Contains-map g xs x has = (has.0, map_longer g xs has.0 has.1, map_at g xs has.0 x has.1 has.2)

pub Contains-cons : {X : Type 0} (y : X) (ys : List X) (x : X) → Contains ys x → Contains (y ∷ ys) x
Contains-cons y ys x has = (suc has.0, omega (arith, has.1), has.2)

kept : {X : Type 0} (test : X → Bool) (xs : List X) (k : ℕ) (x : X) → k < length xs → get_or xs k x ≡ x → test x ≡ true → Contains (filter test xs) x
kept test [] k x inside is passes = absurd (omega (arith, inside))
kept test (y ∷ ys) zero x inside is passes =
    let here : test y ≡ true = ap test is ∙ passes in
    rw here (zero, omega arith, is)
kept test (y ∷ ys) (suc k) x inside is passes =
    let rest = kept test ys k x (omega (arith, inside)) is passes in
    elim (cases_Bool (test y)) [
      | inl passed ↦ rw passed (Contains-cons y (filter test ys) x rest)
      | inr failed ↦ rw failed rest
    ]

pub Contains-filter : {X : Type 0} (test : X → Bool) (xs : List X) (x : X) → Contains xs x → test x ≡ true → Contains (filter test xs) x
Contains-filter test xs x has passes = kept test xs has.0 x has.1 has.2 passes

piece_has : {X Y : Type 0} (f : X → List Y) (xs : List X) (k : ℕ) (d : X) (y : Y) → k < length xs → Contains (f (get_or xs k d)) y → Contains (flat_map f xs) y
piece_has f [] k d y inside there = absurd (omega (arith, inside))
piece_has f (x ∷ xs) zero d y inside there = Contains-append_left (f x) (flat_map f xs) y there
piece_has f (x ∷ xs) (suc k) d y inside there = Contains-append_right (f x) (flat_map f xs) y (piece_has f xs k d y (omega (arith, inside)) there)

pub Contains-flat_map : {X Y : Type 0} (f : X → List Y) (xs : List X) (x : X) (y : Y) → Contains xs x → Contains (f x) y → Contains (flat_map f xs) y
Contains-flat_map f xs x y has there = piece_has f xs has.0 x y has.1 (rw has.2 there)

pub Contains-below : (count k : ℕ) → k < count → Contains (range_with_len 0 count) k
Contains-below count k inside =
    let long = length-range_with_len 0 count in
    (k, omega (arith, inside, long), get_or-range_with_len 0 count k k inside ∙ omega arith)

pub All-below : (P : ℕ → Type 0) (count : ℕ) → ((k : ℕ) → k < count → P k) → All P (range_with_len 0 count)
All-below P count each k d inside =
    let there : k < count = omega (arith, inside, length-range_with_len 0 count) in
    let is : get_or (range_with_len 0 count) k d ≡ k = get_or-range_with_len 0 count k d there ∙ omega arith in
    rw is (each k there)

-- what holds of each that passes
pub All-filter : {X : Type 0} (P : X → Type 0) (test : X → Bool) (xs : List X) → All (λ x. test x ≡ true → P x) xs → All P (filter test xs)
All-filter P test [] each = λ k d inside. absurd (omega (arith, inside))
All-filter P test (x ∷ xs) each =
    let rest = All-filter P test xs (λ k d inside. each (suc k) d (omega (arith, inside))) in
    elim (cases_Bool (test x)) [
      | inl passed ↦ rw passed (All-append P (x ∷ []) (filter test xs) (one (each 0 x (omega arith) passed)) rest)
      | inr failed ↦ rw failed rest
    ]
  where
    one : P x → All P (x ∷ [])
    one here zero d inside = here
    one here (suc k) d inside = absurd (omega (arith, inside))

-- and of each of all pieces
pub All-flat_map : {X Y : Type 0} (P : Y → Type 0) (f : X → List Y) (xs : List X) → All (λ x. All P (f x)) xs → All P (flat_map f xs)
All-flat_map P f [] each = λ k d inside. absurd (omega (arith, inside))
All-flat_map P f (x ∷ xs) each = All-append P (f x) (flat_map f xs) (each 0 x (omega arith)) (All-flat_map P f xs (λ k d inside. each (suc k) d (omega (arith, inside))))
