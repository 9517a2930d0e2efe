-- Sums of weights over lists: two lists of names have the same names where they have the same sum by each weight.
use Rattle.std.proofs.Common.{◌≡◌, ◌≢◌, ℕ, zero, suc, ◌+◌, ◌<◌, ◌≤◌, List, [], ◌∷◌, ◌++◌, length, get_or, set, map, refl, sym, ap, subst, ◌∙◌, inl, inr, ◌⊎◌, arith}
use Rattle.std.specs.List.{flat_map, Contains}
use Rattle.std.specs.List.Sorted.{IsPermutation}
use Rattle.std.proofs.lemmas.Bool.{cases_eq}
use Rattle.std.proofs.lemmas.List.Sorted.{IsPermutation-refl, IsPermutation-sym, IsPermutation-cons, IsPermutation-trans, IsPermutation-middle}
use Rattle.std.proofs.lemmas.List.Elements.{Contains-append_right}

abbrev pub weigh : {A : Type 0} → (A → ℕ) → List A → ℕ
weigh g [] = 0
weigh g (x ∷ xs) = g x + weigh g xs

pub weigh-append : {A : Type 0} (g : A → ℕ) (xs ys : List A) → weigh g (xs ++ ys) ≡ weigh g xs + weigh g ys
weigh-append g [] ys = omega arith
weigh-append g (x ∷ xs) ys = omega (arith, weigh-append g xs ys)

pub weigh-map : {A B : Type 0} (g : B → ℕ) (f : A → B) (xs : List A) → weigh g (map f xs) ≡ weigh (λ x. g (f x)) xs
weigh-map g f [] = refl
weigh-map g f (x ∷ xs) = ap (λ n. g (f x) + n) (weigh-map g f xs)

pub weigh-flat_map : {A B : Type 0} (g : B → ℕ) (f : A → List B) (xs : List A) → weigh g (flat_map f xs) ≡ weigh (λ x. weigh g (f x)) xs
weigh-flat_map g f [] = refl
weigh-flat_map g f (x ∷ xs) = omega (arith, weigh-append g (f x) (flat_map f xs), weigh-flat_map g f xs)

pub weigh-set : {A : Type 0} (g : A → ℕ) (xs : List A) (i : ℕ) (y d : A) → i < length xs → weigh g (set xs i y) + g (get_or xs i d) ≡ weigh g xs + g y
weigh-set g [] i y d h = absurd (omega (arith, h))
weigh-set g (x ∷ xs) zero y d h = omega arith
weigh-set g (x ∷ xs) (suc i) y d h =
    let less : i < length xs = omega arith in
    omega (arith, weigh-set g xs i y d less)

-- one element weighs no more than all
pub weigh-get_or : {A : Type 0} (g : A → ℕ) (xs : List A) (i : ℕ) (d : A) → i < length xs → g (get_or xs i d) ≤ weigh g xs
weigh-get_or g [] i d h = absurd (omega (arith, h))
weigh-get_or g (x ∷ xs) zero d h = omega arith
weigh-get_or g (x ∷ xs) (suc i) d h =
    let less : i < length xs = omega arith in
    omega (arith, weigh-get_or g xs i d less)

-- nor do two at different places
pub weigh-two : {A : Type 0} (g : A → ℕ) (xs : List A) (j k : ℕ) (d : A) → j < k → k < length xs → g (get_or xs j d) + g (get_or xs k d) ≤ weigh g xs
weigh-two g [] j k d lt h = absurd (omega (arith, h))
weigh-two g (x ∷ xs) j zero d lt h = absurd (omega arith)
weigh-two g (x ∷ xs) zero (suc k) d lt h =
    let less : k < length xs = omega arith in
    omega (arith, weigh-get_or g xs k d less)
weigh-two g (x ∷ xs) (suc j) (suc k) d lt h =
    let less : k < length xs = omega arith in
    let rises : j < k = omega arith in
    omega (arith, weigh-two g xs j k d rises less)

pub weigh-le : {A : Type 0} (f g : A → ℕ) (xs : List A) → ((x : A) → f x ≤ g x) → weigh f xs ≤ weigh g xs
weigh-le f g [] h = omega arith
weigh-le f g (x ∷ xs) h = omega (arith, h x, weigh-le f g xs h)

pub weigh-none : {A : Type 0} (f : A → ℕ) (xs : List A) → ((x : A) → f x ≡ 0) → weigh f xs ≡ 0
weigh-none f [] h = refl
weigh-none f (x ∷ xs) h = omega (arith, h x, weigh-none f xs h)

-- two lists of numbers are the same, or they aren't
pub same_or_other : (xs ys : List ℕ) → (xs ≡ ys) ⊎ (xs ≢ ys)
same_or_other [] [] = inl refl
same_or_other [] (y ∷ ys) = inr (λ e. cc)
same_or_other (x ∷ xs) [] = inr (λ e. cc)
same_or_other (x ∷ xs) (y ∷ ys) =
    elim (cases_eq x y) [
      | inl e ↦ elim (same_or_other xs ys) [ inl f ↦ inl cc | inr f ↦ inr (λ h. f cc) ]
      | inr e ↦ inr (λ h. e cc)
    ]

-- the weight that is 1 at one name, and 0 at others
pub one_if : {P : Type 0} → P ⊎ ¬ P → ℕ
one_if (inl h) = 1
one_if (inr h) = 0

pub one_if-true : {P : Type 0} (d : P ⊎ ¬ P) → P → one_if d ≡ 1
unfolding one_if
one_if-true (inl h) p = refl
one_if-true (inr h) p = absurd (h p)

pub one_if-false : {P : Type 0} (d : P ⊎ ¬ P) → ¬ P → one_if d ≡ 0
unfolding one_if
one_if-false (inl h) p = absurd (p h)
one_if-false (inr h) p = refl

abbrev pub only : List ℕ → List ℕ → ℕ
only name x = one_if (same_or_other name x)

pub only-same : (name : List ℕ) → only name name ≡ 1
only-same name = one_if-true (same_or_other name name) refl

pub only-other : (name x : List ℕ) → name ≢ x → only name x ≡ 0
only-other name x h = one_if-false (same_or_other name x) h

-- where a name weighs something in a list, it stands there
pub found : (name : List ℕ) (xs : List (List ℕ)) → 0 < weigh (only name) xs → (front : List (List ℕ)) × ((back : List (List ℕ)) × (xs ≡ front ++ name ∷ back))
found name [] h = absurd (omega (arith, h))
found name (x ∷ xs) h =
    elim (same_or_other name x) [
      | inl e ↦ ([], (xs, ap (λ n. n ∷ xs) (sym e)))
      | inr e ↦
          let some : 0 < weigh (only name) xs = omega (arith, only-other name x e, h) in
          let r = found name xs some in
          (x ∷ r.0, (r.1.0, ap (λ ys. x ∷ ys) r.1.1))
    ]

pub contained : (name : List ℕ) (xs : List (List ℕ)) → 0 < weigh (only name) xs → Contains xs name
contained name xs h =
    let r = found name xs h in
    let P : List (List ℕ) → Type 0 = λ ys. Contains ys name in
    subst P (sym r.1.1) (Contains-append_right r.0 (name ∷ r.1.0) name (0, omega arith, refl))

pub weighs : (name : List ℕ) (xs : List (List ℕ)) → Contains xs name → 0 < weigh (only name) xs
weighs name xs h =
    let le = weigh-get_or (only name) xs h.0 name h.1 in
    let one : only name (get_or xs h.0 name) ≡ 1 = ap (only name) h.2 ∙ only-same name in
    omega (arith, le, one)

pub same_names : (xs ys : List (List ℕ)) → ((g : List ℕ → ℕ) → weigh g xs ≡ weigh g ys) → IsPermutation xs ys
same_names [] [] h = IsPermutation-refl []
same_names [] (y ∷ ys) h = absurd (omega (arith, h (λ n. 1)))
same_names (x ∷ xs) ys h =
    let some : 0 < weigh (only x) ys = omega (arith, h (only x), only-same x) in
    let r = found x ys some in
    let front = r.0 in
    let back = r.1.0 in
    let less : (g : List ℕ → ℕ) → weigh g xs ≡ weigh g (front ++ back) =
    λ g. omega (arith, h g, ap (weigh g) r.1.1, weigh-append g front (x ∷ back), weigh-append g front back) in
    let P : List (List ℕ) → Type 0 = λ zs. IsPermutation (x ∷ xs) zs in
    subst P (sym r.1.1)
    (IsPermutation-trans (x ∷ xs) (x ∷ (front ++ back)) (front ++ x ∷ back)
    (IsPermutation-cons x xs (front ++ back) (same_names xs (front ++ back) less))
    (IsPermutation-sym (front ++ x ∷ back) (x ∷ (front ++ back)) (IsPermutation-middle front x back)))
