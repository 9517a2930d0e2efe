-- Lists in stretches, compared stretch by stretch.
use Rattle.std.proofs.Common.{◌≡◌, ℕ, zero, suc, ◌+◌, ◌<◌, ◌≤◌, true, false, List, [], ◌∷◌, ◌++◌, length, get_or, drop, take, min, refl, sym, ap, ◌∙◌, append_assoc, arith}
use Rattle.std.specs.List.{flat_map}
use Rattle.std.specs.declared.cmp.Ordering.{Ordering}
use Rattle.std.specs.declared.cmp.Ordering.TheVariants.{Less, Equal, Greater}
use Rattle.std.specs.Ordering.{nat_cmp, ordering_then, ordering_reverse, is_ne}
use Rattle.std.specs.Cmp.Lexicographic.{slice_cmp}
use Rattle.std.proofs.lemmas.Bool.{true≢false}
use Rattle.std.proofs.lemmas.Cmp.{nat_list_cmp_total}
use Rattle.search_trees.specs.Stretches.{AreWhole}
use Rattle.search_trees.proofs.Stretches.{whole_at}

abbrev order_of : List ℕ → List ℕ → Ordering
order_of = slice_cmp nat_cmp

then_both : (a b c : Ordering) → ordering_then a (ordering_then b c) ≡ ordering_then (ordering_then a b) c
then_both Less b c = refl
then_both Equal b c = refl
then_both Greater b c = refl

-- what is decided stays so
pub decided : (a b : Ordering) → is_ne a ≡ true → ordering_then a b ≡ a
decided Less b is = refl
decided Equal b is = absurd (true≢false (sym is))
decided Greater b is = refl

pub undecided : (a b : Ordering) → is_ne a ≡ false → ordering_then a b ≡ b
undecided Less b is = absurd (true≢false is)
undecided Equal b is = refl
undecided Greater b is = absurd (true≢false is)

-- fronts that are as long
pub order_of_both : (xs ys u v : List ℕ) → length xs ≡ length ys → order_of (xs ++ u) (ys ++ v) ≡ ordering_then (order_of xs ys) (order_of u v)
order_of_both [] [] u v same = refl
order_of_both [] (y ∷ ys) u v same = absurd (omega (arith, same))
order_of_both (x ∷ xs) [] u v same = absurd (omega (arith, same))
order_of_both (x ∷ xs) (y ∷ ys) u v same =
    ap (ordering_then (nat_cmp x y)) (order_of_both xs ys u v (omega (arith, same))) ∙ then_both (nat_cmp x y) (order_of xs ys) (order_of u v)

-- a front, and as much of the other list
pub order_of_front : (n : ℕ) (xs u zs : List ℕ) → n ≡ min (length xs) (length zs)
    → order_of (xs ++ u) zs ≡ ordering_then (order_of xs (take n zs)) (order_of u (drop n zs))
order_of_front zero [] u zs is = refl
order_of_front zero (x ∷ xs) u [] is = refl
order_of_front zero (x ∷ xs) u (z ∷ zs) is = absurd (omega (arith, is))
order_of_front (suc n) [] u zs is = absurd (omega (arith, is))
order_of_front (suc n) (x ∷ xs) u [] is = absurd (omega (arith, is))
order_of_front (suc n) (x ∷ xs) u (z ∷ zs) is =
    ap (ordering_then (nat_cmp x z)) (order_of_front n xs u zs (omega (arith, is)))
    ∙ then_both (nat_cmp x z) (order_of xs (take n zs)) (order_of u (drop n zs))

-- the items from a stretch on
pub from_stretch : {A B : Type 0} (f : A → List B) (xs : List A) (k n : ℕ) (x : A) (own : List B) → k < length xs → n ≡ k + 1
    → flat_map f (drop k xs) ++ own ≡ f (get_or xs k x) ++ (flat_map f (drop n xs) ++ own)
from_stretch f [] k n x own inside next = absurd (omega (arith, inside))
from_stretch f (y ∷ xs) zero zero x own inside next = absurd (omega (arith, next))
from_stretch f (y ∷ xs) zero (suc zero) x own inside next = append_assoc (f y) (flat_map f xs) own
from_stretch f (y ∷ xs) zero (suc (suc n)) x own inside next = absurd (omega (arith, next))
from_stretch f (y ∷ xs) (suc k) zero x own inside next = absurd (omega (arith, next))
from_stretch f (y ∷ xs) (suc k) (suc n) x own inside next = from_stretch f xs k n x own (omega (arith, inside)) (omega (arith, next))

pub none_left : {A B : Type 0} (f : A → List B) (xs : List A) (k : ℕ) (own : List B) → length xs ≤ k → flat_map f (drop k xs) ++ own ≡ own
none_left f [] zero own behind = refl
none_left f [] (suc k) own behind = refl
none_left f (y ∷ xs) zero own behind = absurd (omega (arith, behind))
none_left f (y ∷ xs) (suc k) own behind = none_left f xs k own (omega (arith, behind))

-- one stretch more is compared with a list
pub next_order : {A : Type 0} (f : A → List ℕ) (xs : List A) (k n : ℕ) (x : A) (own rest : List ℕ) (whole : Ordering) → k < length xs
    → n ≡ min (length (f (get_or xs k x))) (length rest)
    → whole ≡ order_of (flat_map f (drop k xs) ++ own) rest
    → whole ≡ ordering_then (order_of (f (get_or xs k x)) (take n rest)) (order_of (flat_map f (drop (k + 1) xs) ++ own) (drop n rest))
next_order f xs k n x own rest whole inside is so_far =
    so_far ∙ ap (λ (l : List ℕ). order_of l rest) (from_stretch f xs k (k + 1) x own inside refl)
    ∙ order_of_front n (f (get_or xs k x)) (flat_map f (drop (k + 1) xs) ++ own) rest is

-- the same by what was compared
pub compared : {A : Type 0} (f : A → List ℕ) (xs : List A) (k n : ℕ) (x : A) (own rest items front behind : List ℕ) (order whole : Ordering)
    → k < length xs → x ≡ get_or xs k x → items ≡ f x
    → n ≡ min (length items) (length rest) → front ≡ take n rest → behind ≡ drop n rest → order ≡ order_of items front
    → whole ≡ order_of (flat_map f (drop k xs) ++ own) rest
    → whole ≡ ordering_then order (order_of (flat_map f (drop (k + 1) xs) ++ own) behind)
compared f xs k n x own rest items front behind order whole inside at are many front_is behind_is order_is so_far =
    let same : items ≡ f (get_or xs k x) = are ∙ ap f at in
    let orders : order ≡ order_of (f (get_or xs k x)) (take n rest) = order_is ∙ ap (λ (l : List ℕ). order_of l front) same
    ∙ ap (order_of (f (get_or xs k x))) front_is in
    next_order f xs k n x own rest whole inside (many ∙ ap (λ (l : List ℕ). min (length l) (length rest)) same) so_far
    ∙ ap (λ (o : Ordering). ordering_then o (order_of (flat_map f (drop (k + 1) xs) ++ own) (drop n rest))) (sym orders)
    ∙ ap (λ (l : List ℕ). ordering_then order (order_of (flat_map f (drop (k + 1) xs) ++ own) l)) (sym behind_is)

-- two stretches more are compared
pub next_both : {A : Type 0} (f : A → List ℕ) (xs ys : List A) (k : ℕ) (x y : A) (u v : List ℕ) (whole : Ordering) → AreWhole f xs → AreWhole f ys
    → k < length xs → k < length ys
    → whole ≡ order_of (flat_map f (drop k xs) ++ u) (flat_map f (drop k ys) ++ v)
    → whole ≡ ordering_then (order_of (f (get_or xs k x)) (f (get_or ys k y))) (order_of (flat_map f (drop (k + 1) xs) ++ u)
    (flat_map f (drop (k + 1) ys) ++ v))
next_both f xs ys k x y u v whole are too in_xs in_ys so_far =
    so_far ∙ ap (λ (l : List ℕ). order_of l (flat_map f (drop k ys) ++ v)) (from_stretch f xs k (k + 1) x u in_xs refl)
    ∙ ap (order_of (f (get_or xs k x) ++ (flat_map f (drop (k + 1) xs) ++ u))) (from_stretch f ys k (k + 1) y v in_ys refl)
    ∙ order_of_both (f (get_or xs k x)) (f (get_or ys k y)) (flat_map f (drop (k + 1) xs) ++ u) (flat_map f (drop (k + 1) ys) ++ v)
    (whole_at f xs k x are in_xs ∙ sym (whole_at f ys k y too in_ys))

-- the same by what was compared
pub both_compared : {A : Type 0} (f : A → List ℕ) (xs ys : List A) (k : ℕ) (x y : A) (u v first second : List ℕ) (order whole : Ordering) → AreWhole f xs
    → AreWhole f ys → k < length xs → k < length ys
    → x ≡ get_or xs k x → y ≡ get_or ys k y → first ≡ f x → second ≡ f y → order ≡ order_of first second
    → whole ≡ order_of (flat_map f (drop k xs) ++ u) (flat_map f (drop k ys) ++ v)
    → whole ≡ ordering_then order (order_of (flat_map f (drop (k + 1) xs) ++ u) (flat_map f (drop (k + 1) ys) ++ v))
both_compared f xs ys k x y u v first second order whole are too in_xs in_ys at there first_is second_is order_is so_far =
    let orders : order ≡ order_of (f (get_or xs k x)) (f (get_or ys k y)) = order_is ∙ ap (λ (l : List ℕ). order_of l second) (first_is ∙ ap f at)
    ∙ ap (order_of (f (get_or xs k x))) (second_is ∙ ap f there) in
    next_both f xs ys k x y u v whole are too in_xs in_ys so_far
    ∙ ap (λ (o : Ordering). ordering_then o (order_of (flat_map f (drop (k + 1) xs) ++ u) (flat_map f (drop (k + 1) ys) ++ v))) (sym orders)

turned : (xs ys : List ℕ) → order_of xs ys ≡ ordering_reverse (order_of ys xs)
turned xs ys = nat_list_cmp_total.antisymm xs ys

-- ---- two lists, of which the stretches at the same places were compared

-- they differ
pub order_decided : (order rest whole : Ordering) → whole ≡ ordering_then order rest → is_ne order ≡ true → order ≡ whole
order_decided order rest whole is ne = sym (is ∙ decided order rest ne)

-- the other list has more of them
pub order_of_more : {A : Type 0} (f : A → List ℕ) (xs ys : List A) (n : ℕ) (u v : List ℕ) (order rest whole : Ordering) → length xs ≤ n
    → whole ≡ ordering_then order (order_of (flat_map f (drop n xs) ++ u) (flat_map f (drop n ys) ++ v)) → is_ne order ≡ false
    → rest ≡ order_of (flat_map f (drop n ys) ++ v) u
    → ordering_reverse rest ≡ whole
order_of_more f xs ys n u v order rest whole behind is eq compared =
    ap ordering_reverse compared ∙ sym (turned u (flat_map f (drop n ys) ++ v))
    ∙ sym (is ∙ undecided order (order_of (flat_map f (drop n xs) ++ u) (flat_map f (drop n ys) ++ v)) eq
    ∙ ap (λ (l : List ℕ). order_of l (flat_map f (drop n ys) ++ v)) (none_left f xs n u behind))

-- it has no more of them
pub order_of_rest : {A : Type 0} (f : A → List ℕ) (xs ys : List A) (n : ℕ) (u v : List ℕ) (order rest whole : Ordering) → length ys ≤ n
    → whole ≡ ordering_then order (order_of (flat_map f (drop n xs) ++ u) (flat_map f (drop n ys) ++ v)) → is_ne order ≡ false
    → rest ≡ order_of (flat_map f (drop n xs) ++ u) v
    → rest ≡ whole
order_of_rest f xs ys n u v order rest whole behind is eq compared =
    compared
    ∙ sym (is ∙ undecided order (order_of (flat_map f (drop n xs) ++ u) (flat_map f (drop n ys) ++ v)) eq
    ∙ ap (order_of (flat_map f (drop n xs) ++ u)) (none_left f ys n v behind))
