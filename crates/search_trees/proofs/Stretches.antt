-- Lists in whole stretches: which item stands at a place.
use Rattle.std.proofs.Common.{◌≡◌, ℕ, zero, suc, ◌+◌, ◌*◌, ◌<◌, List, [], ◌∷◌, ◌++◌, length, get_or, refl, ap, ◌∙◌, append_assoc, arith}
use Rattle.std.specs.Prelude.{slice_get}
use Rattle.std.specs.List.{flat_map, AllZip}
use Rattle.std.specs.declared.option.Option.TheVariants.{Some}
use Rattle.search_trees.specs.Stretches.{AreWhole}

pub get-front : {B : Type 0} (xs ys : List B) (k : ℕ) → k < length xs → slice_get (xs ++ ys) k ≡ slice_get xs k
get-front [] ys k inside = absurd (omega (arith, inside))
get-front (x ∷ xs) ys zero inside = refl
get-front (x ∷ xs) ys (suc k) inside = get-front xs ys k (omega (arith, inside))

pub get-behind : {B : Type 0} (xs ys : List B) (n k : ℕ) → n ≡ length xs + k → slice_get (xs ++ ys) n ≡ slice_get ys k
get-behind [] ys n k at = let same : n ≡ k = omega (arith, at) in ap (slice_get ys) same
get-behind (x ∷ xs) ys zero k at = absurd (omega (arith, at))
get-behind (x ∷ xs) ys (suc n) k at = get-behind xs ys n k (omega (arith, at))

pub get-inside : {B : Type 0} (xs : List B) (k : ℕ) (x : B) → k < length xs → Some (get_or xs k x) ≡ slice_get xs k
get-inside [] k x inside = absurd (omega (arith, inside))
get-inside (y ∷ xs) zero x inside = refl
get-inside (y ∷ xs) (suc k) x inside = get-inside xs k x (omega (arith, inside))

-- each stretch has 64 items
pub whole_at : {A B : Type 0} (f : A → List B) (xs : List A) (k : ℕ) (x : A) → AreWhole f xs → k < length xs → length (f (get_or xs k x)) ≡ 64
whole_at f [] k x are inside = absurd (omega (arith, inside))
whole_at f (y ∷ xs) zero x are inside = are.0
whole_at f (y ∷ xs) (suc k) x are inside = whole_at f xs k x are.1 (omega (arith, inside))

-- an item of a stretch
pub item_of_stretch : {A B : Type 0} (f : A → List B) (xs : List A) (own : List B) (stretch place n : ℕ) (x : A) → AreWhole f xs → stretch < length xs
    → place < 64 → n ≡ stretch * 64 + place
    → slice_get (flat_map f xs ++ own) n ≡ slice_get (f (get_or xs stretch x)) place
item_of_stretch f [] own stretch place n x are there inside at = absurd (omega (arith, there))
item_of_stretch f (y ∷ xs) own zero place n x are there inside at =
    let same : n ≡ place = omega (arith, at) in
    ap (λ (l : List _). slice_get l n) (append_assoc (f y) (flat_map f xs) own)
    ∙ get-front (f y) (flat_map f xs ++ own) n (omega (arith, are.0, same, inside)) ∙ ap (slice_get (f y)) same
item_of_stretch f (y ∷ xs) own (suc stretch) place n x are there inside at =
    let rest = stretch * 64 + place in
    ap (λ (l : List _). slice_get l n) (append_assoc (f y) (flat_map f xs) own) ∙ get-behind (f y) (flat_map f xs ++ own) n rest (omega (arith, are.0, at))
    ∙ item_of_stretch f xs own stretch place rest x are.1 (omega (arith, there)) inside refl

-- an item behind all of them
pub item_behind : {A B : Type 0} (f : A → List B) (xs : List A) (own : List B) (place n : ℕ) → AreWhole f xs → n ≡ length xs * 64 + place
    → slice_get (flat_map f xs ++ own) n ≡ slice_get own place
item_behind f [] own place n are at = let same : n ≡ place = omega (arith, at) in ap (slice_get own) same
item_behind f (y ∷ xs) own place n are at =
    let rest = length xs * 64 + place in
    ap (λ (l : List _). slice_get l n) (append_assoc (f y) (flat_map f xs) own) ∙ get-behind (f y) (flat_map f xs ++ own) n rest (omega (arith, are.0, at))
    ∙ item_behind f xs own place rest are.1 refl

-- copies are as long, and one more is, where it has as many items
pub whole_copies : {A B : Type 0} (f : A → List B) (xs ys : List A) → AllZip (λ x y. f y ≡ f x) xs ys → AreWhole f xs → AreWhole f ys
whole_copies f [] [] same are = tt
whole_copies f [] (y ∷ ys) same are = absurd same
whole_copies f (x ∷ xs) [] same are = absurd same
whole_copies f (x ∷ xs) (y ∷ ys) same are = (ap (λ (l : List _). length l) same.0 ∙ are.0, whole_copies f xs ys same.1 are.1)

pub whole_more : {A B : Type 0} (f : A → List B) (xs : List A) (x : A) → AreWhole f xs → length (f x) ≡ 64 → AreWhole f (xs ++ x ∷ [])
whole_more f [] x are is = (is, tt)
whole_more f (y ∷ xs) x are is = (are.0, whole_more f xs x are.1 is)
