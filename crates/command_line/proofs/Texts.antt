-- Lists of texts are equal where each text is.
use Rattle.std.proofs.Common.{◌≡◌, ℕ, List, [], ◌∷◌, Bool, Bor, map, refl}
use Rattle.std.specs.Bool.{Decides}
use Rattle.std.specs.Str.{bytes_eq}
use Rattle.std.specs.Cmp.Lexicographic.{pointwise}
use Rattle.command_line.specs.Names.{is_rooted, parts, NameOneFile}
use Rattle.std.proofs.lemmas.Slice.Eq.{bytes_eq-Decides, slice_eq-Decides}

-- two lists of texts are compared by what they read
read : (xs ys : List (Bor (List ℕ))) → pointwise (λ x y. bytes_eq x.now y.now) xs ys ≡ pointwise bytes_eq (map (λ x. x.now) xs) (map (λ y. y.now) ys)
read [] [] = refl
read [] (y ∷ ys) = refl
read (x ∷ xs) [] = refl
read (x ∷ xs) (y ∷ ys) = rw (read xs ys) refl

texts_decide : (xs ys : List (Bor (List ℕ))) (r : Bool) → r ≡ pointwise (λ x y. bytes_eq x.now y.now) xs ys → Decides r (map (λ x. x.now) xs ≡ map (λ y. y.now) ys)
texts_decide xs ys r is = slice_eq-Decides bytes_eq-Decides _ _ r (rw (← read xs ys) is)

-- names with the same root name one file where their parts are equal
pub same_file : (a b : List ℕ) (xs ys : List (Bor (List ℕ))) (r : Bool) → is_rooted a ≡ is_rooted b → map (λ x. x.now) xs ≡ parts a → map (λ y. y.now) ys ≡ parts b → r ≡ pointwise (λ x y. bytes_eq x.now y.now) xs ys → Decides r (NameOneFile a b)
same_file a b xs ys r root at_a at_b is =
    let decides = texts_decide xs ys r is in
    (λ yes. (root, rw (← at_a, ← at_b) (decides.0 yes)), λ one. decides.1 (rw (at_a, at_b) one.1))
