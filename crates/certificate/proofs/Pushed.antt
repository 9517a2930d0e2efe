-- How a text grows in a loop over the elements of a list.
use Rattle.std.proofs.Common.{◌≡◌, ℕ, ◌+◌, ◌^◌, ◌<◌, ◌≤◌, List, [], ◌∷◌, ◌++◌, length, get_or, take, All, sym, ap, subst, ◌∙◌, append_assoc}
use Rattle.std.specs.List.{flat_map}
use Rattle.std.proofs.lemmas.List.{take_more, take_all, append-nil}
use Rattle.std.proofs.lemmas.List.Elements.{All-more, All-from_get_or}
use Rattle.std.proofs.lemmas.Grind.{flat_map-append}
use Rattle.certificate.specs.Spelling.{Fit}

-- the text of one element more, at its place
pub more_at : {X : Type 0} (f : X → List ℕ) (xs : List X) (k : ℕ) (d : X) (start text new : List ℕ) → k < length xs → text ≡ start ++ flat_map f (take k xs) → new ≡ text ++ f (get_or xs k d)
    → new ≡ start ++ flat_map f (take (k + 1) xs)
more_at {X} f xs k d start text new lt so_far more =
    let x : X = get_or xs k d in
    let texts : flat_map f (take (k + 1) xs) ≡ flat_map f (take k xs) ++ f (get_or xs k d) =
    ap (flat_map f) (take_more xs k d lt) ∙ flat_map-append f (take k xs) (x ∷ []) ∙ ap (λ (t : List ℕ). flat_map f (take k xs) ++ t) (append-nil (f x)) in
    more ∙ ap (λ (t : List ℕ). t ++ f x) so_far ∙ append_assoc start (flat_map f (take k xs)) (f x) ∙ ap (λ (t : List ℕ). start ++ t) (sym texts)

-- the text of one element more
pub more_text : {X : Type 0} (f : X → List ℕ) (xs : List X) (k : ℕ) (x : X) (start text new : List ℕ) → k < length xs → x ≡ get_or xs k x → text ≡ start ++ flat_map f (take k xs) → new ≡ text ++ f x
    → new ≡ start ++ flat_map f (take (k + 1) xs)
more_text f xs k x start text new lt at so_far more = more_at f xs k x start text new lt so_far (more ∙ ap (λ y. text ++ f y) at)

-- what is true of one element more
pub more_fit : {X : Type 0} (P : X → Type 0) (xs : List X) (k : ℕ) (x : X) → k < length xs → x ≡ get_or xs k x → All P (take k xs) → P x → All P (take (k + 1) xs)
more_fit P xs k x lt at all here = All-more P xs k x lt all (subst P at here)

-- what is true of all that a loop went through
pub all_fit : {X : Type 0} (P : X → Type 0) (xs : List X) (k : ℕ) → length xs ≤ k → All P (take k xs) → All P xs
all_fit {X} P xs k le all = subst (All P) (take_all k xs le) all

-- the whole text, line by line
pub text_pushed : (first t0 t1 t2 t3 t4 line nodes : List ℕ) → t0 ≡ [] → t1 ≡ t0 ++ first → t2 ≡ t1 ++ 10 ∷ [] → t3 ≡ t2 ++ (line ++ 10 ∷ []) → t4 ≡ t3 ++ nodes
    → t4 ≡ first ++ 10 ∷ (line ++ 10 ∷ nodes)
text_pushed first t0 t1 t2 t3 t4 line nodes e0 e1 e2 e3 e4 = rw (e4, e3, e2, e1, e0) (simp append_assoc)

-- a whole line: the keyword, what stands behind it, and the end
pub line_pushed : (f : ℕ → List ℕ) (xs : List ℕ) (k : ℕ) (start keyword t0 t1 t2 : List ℕ) → length xs ≤ k → t0 ≡ start ++ keyword → t1 ≡ t0 ++ flat_map f (take k xs) → t2 ≡ t1 ++ 10 ∷ []
    → t2 ≡ start ++ ((keyword ++ flat_map f xs) ++ 10 ∷ [])
line_pushed f xs k start keyword t0 t1 t2 le first all end =
    let whole = take_all k xs le in
    rw (end, all, first, whole) (simp append_assoc)

-- numbers of 32 bits can be written
pub fit_from_type : (xs : List ℕ) → ((k : ℕ) → get_or xs k 0 < 2 ^ 32) → Fit xs
fit_from_type xs fits = All-from_get_or (λ n. n < 2 ^ 32) xs 0 (λ k lt. fits k)
