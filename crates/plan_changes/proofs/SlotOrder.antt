-- Two lists of names are the same where each name is.
use Rattle.std.proofs.Common.{◌≡◌, ℕ, ◌<◌, Bool, true, false, List, [], length, get_or, ap, refl}
use Rattle.std.specs.Prelude.{bytes_eq, not}
use Rattle.std.specs.Cmp.Lexicographic.{pointwise}
use Rattle.std.proofs.lemmas.List.{ext_get_or, length-map}
use Rattle.std.proofs.lemmas.Slice.Eq.{bytes_eq-Decides, slice_eq-Decides}
use Rattle.ttp_model.specs.Instance.{node_at}
use Rattle.plan_changes.specs.Planned.{Planned}
use Rattle.plan_changes.specs.Changes.{names_in_order}

pub length-names_in_order : (p : Planned) → length (names_in_order p) ≡ length p.plan.order
length-names_in_order p = length-map p.plan.order (λ n. (node_at p.instance n).name)

pub names-same : (xs ys : List (List ℕ)) → length xs ≡ length ys → ((k : ℕ) → k < length xs → get_or xs k [] ≡ get_or ys k []) → pointwise bytes_eq xs ys ≡ true
names-same xs ys long each = (slice_eq-Decides bytes_eq-Decides xs ys (pointwise bytes_eq xs ys) refl).1 (ext_get_or [] xs ys long each)

not_true : (r : Bool) → ¬ (r ≡ true) → r ≡ false
not_true true = λ no. absurd (no refl)
not_true false = λ no. refl

-- where one is another
pub names-other : (xs ys : List (List ℕ)) (k : ℕ) (a b : List ℕ) → a ≡ get_or xs k [] → b ≡ get_or ys k [] → true ≡ not (bytes_eq a b)
    → pointwise bytes_eq xs ys ≡ false
names-other xs ys k a b first second other =
    not_true (pointwise bytes_eq xs ys) (λ is.
    let same = (slice_eq-Decides bytes_eq-Decides xs ys (pointwise bytes_eq xs ys) refl).0 is in
    let here : a ≡ b = cc (first, second, ap (λ (names : List (List ℕ)). get_or names k []) same) in
    let told : bytes_eq a b ≡ true = (bytes_eq-Decides a b).1 here in
    let tells : true ≡ not true = rw told at other in
    absurd cc)
