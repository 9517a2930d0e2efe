-- Lists in stretches that they share.
use Rattle.std.proofs.Common.{◌≡◌, ℕ, ◌+◌, ◌<◌, ◌≤◌, List, [], ◌∷◌, ◌++◌, length, get_or, take, refl, sym, ap, ◌∙◌, append_assoc}
use Rattle.std.specs.List.{flat_map, AllZip}
use Rattle.std.proofs.lemmas.List.{take_more, take_all, append-nil}
use Rattle.std.proofs.lemmas.Grind.{flat_map-append}

-- the items of one stretch more
pub more_items : {A B : Type 0} (f : A → List B) (xs : List A) (k : ℕ) (x : A) (start items new : List B) → k < length xs → x ≡ get_or xs k x
    → items ≡ start ++ flat_map f (take k xs) → new ≡ items ++ f x
    → new ≡ start ++ flat_map f (take (k + 1) xs)
more_items {A} {B} f xs k x start items new inside at so_far more =
    let last : flat_map f (get_or xs k x ∷ []) ≡ f x = append-nil (f (get_or xs k x)) ∙ ap f (sym at) in
    let next : flat_map f (take (k + 1) xs) ≡ flat_map f (take k xs) ++ f x =
    ap (flat_map f) (take_more xs k x inside) ∙ flat_map-append f (take k xs) (get_or xs k x ∷ []) ∙ ap (λ (t : List B). flat_map f (take k xs) ++ t) last in
    more ∙ ap (λ (t : List B). t ++ f x) so_far ∙ append_assoc start (flat_map f (take k xs)) (f x) ∙ ap (λ (t : List B). start ++ t) (sym next)

-- the items of all of them
pub all_items : {A B : Type 0} (f : A → List B) (xs : List A) (k : ℕ) (start items : List B) → length xs ≤ k → items ≡ start ++ flat_map f (take k xs)
    → items ≡ start ++ flat_map f xs
all_items {A} {B} f xs k start items behind are = are ∙ ap (λ (ys : List A). start ++ flat_map f ys) (take_all k xs behind)

-- copies of stretches have the same items
pub same_items : {A B : Type 0} (f : A → List B) (xs ys : List A) → AllZip (λ x y. f y ≡ f x) xs ys → flat_map f ys ≡ flat_map f xs
same_items {A} {B} f [] [] are = refl
same_items {A} {B} f [] (y ∷ ys) are = absurd are
same_items {A} {B} f (x ∷ xs) [] are = absurd are
same_items {A} {B} f (x ∷ xs) (y ∷ ys) are =
    ap (λ (t : List B). t ++ flat_map f ys) are.0 ∙ ap (λ (t : List B). f x ++ t) (same_items f xs ys are.1)

-- copies of stretches, with items of a list's own behind them
pub copied_items : {A B : Type 0} (f : A → List B) (xs ys : List A) (own mine : List B) → AllZip (λ x y. f y ≡ f x) xs ys → mine ≡ own
    → flat_map f ys ++ mine ≡ flat_map f xs ++ own
copied_items {A} {B} f xs ys own mine are same =
    ap (λ (t : List B). t ++ mine) (same_items f xs ys are) ∙ ap (λ (t : List B). flat_map f xs ++ t) same

-- copies of stretches, with a last one of a list's own items
pub one_more_items : {A B : Type 0} (f : A → List B) (xs ys zs : List A) (last : A) (own : List B) → AllZip (λ x y. f y ≡ f x) xs ys → zs ≡ ys ++ last ∷ []
    → f last ≡ own → flat_map f zs ≡ flat_map f xs ++ own
one_more_items f xs ys zs last own are pushed is =
    let ends : flat_map f (last ∷ []) ≡ own = append-nil (f last) ∙ is in
    ap (flat_map f) pushed ∙ flat_map-append f ys (last ∷ []) ∙ copied_items f xs ys own (flat_map f (last ∷ [])) are ends

-- and with no item of its own behind it
pub sealed_items : {A B : Type 0} (f : A → List B) (xs zs : List A) (own none : List B) → flat_map f zs ≡ flat_map f xs ++ own → none ≡ []
    → flat_map f zs ++ none ≡ flat_map f xs ++ own
sealed_items {A} {B} f xs zs own none are empty =
    ap (λ (t : List B). flat_map f zs ++ t) empty ∙ append-nil (flat_map f zs) ∙ are
