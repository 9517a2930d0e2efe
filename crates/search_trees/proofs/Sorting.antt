-- Pieces whose names stand once can be put in the order of their names.
use Rattle.std.proofs.Common.{true, ◌≡◌, ℕ, ◌≤◌, List, [], ◌∷◌, inl, inr, refl, sym, ap, ◌∙◌, arith}
use Rattle.std.specs.List.{AllByRecursion as Each}
use Rattle.std.specs.List.Sorted.{IsPermutation}
use Rattle.std.specs.Prelude.{nat_eq}
use Rattle.std.specs.Cmp.Lexicographic.{pointwise}
use Rattle.std.specs.Ordering.{ordering_reverse}
use Rattle.std.specs.declared.cmp.Ordering.{Ordering}
use Rattle.std.specs.declared.cmp.Ordering.TheVariants.{Less, Equal, Greater}
use Rattle.std.proofs.lemmas.Cmp.{nat_list_cmp_total}
use Rattle.std.proofs.lemmas.Map.Lookups.{exact_bytes}
use Rattle.std.proofs.lemmas.List.Elements.{All-from_recursion, recursion_from_All}
use Rattle.std.proofs.lemmas.List.Sorted.{IsPermutation-refl, IsPermutation-sym, IsPermutation-trans, IsPermutation-cons, IsPermutation-middle, All-permutation, Contains-permutation}
use Rattle.search_trees.specs.declared.piece.Piece.{Piece}
use Rattle.search_trees.specs.Pieces.{names_of}
use Rattle.search_trees.specs.Gathering.{times, IsOnce}
use Rattle.search_trees.specs.Order.{compare, SortsBefore, Rises}
use Rattle.search_trees.proofs.Has.{Has, has_from_contains, contains_from_has, each_weaker, each_has}
use Rattle.search_trees.proofs.NameOrder.{before_both}
use Rattle.search_trees.proofs.Counting.{same_name, times_same, times_grow}

-- the same pieces in the order of their names
pub record IsSortable (pieces : List Piece) : Type 0 where
  pub list : List Piece
  pub up : Rises list
  pub same : IsPermutation pieces list

abbrev IsOther : Piece → Piece → Type 0
IsOther p q = p.name ≡ q.name → ⊥

in_front : (p x : Piece) (xs : List Piece) → Rises (x ∷ xs) → SortsBefore p.name x.name → IsSortable (p ∷ (x ∷ xs))
in_front p x xs up less = record {
  list = p ∷ (x ∷ xs);
  up = (
    (
      less,
      each_weaker (λ (q : Piece). SortsBefore x.name q.name) (λ (q : Piece). SortsBefore p.name q.name) xs
          (λ q next. before_both p.name x.name q.name less next) up.0,
    ),
    up,
  );
  same = IsPermutation-refl (p ∷ (x ∷ xs));
}

behind : (p x : Piece) (xs : List Piece) → Rises (x ∷ xs) → SortsBefore x.name p.name → IsSortable (p ∷ xs) → IsSortable (p ∷ (x ∷ xs))
behind p x xs up less rest =
    let Later = λ (q : Piece). SortsBefore x.name q.name in
    record {
      list = x ∷ rest.list;
      up = (recursion_from_All Later rest.list (All-permutation Later (p ∷ xs) rest.list rest.same (All-from_recursion Later (p ∷ xs) (less, up.0))), rest.up);
      same = IsPermutation-trans (p ∷ (x ∷ xs)) (x ∷ (p ∷ xs)) (x ∷ rest.list)
          (IsPermutation-sym (x ∷ (p ∷ xs)) (p ∷ (x ∷ xs)) (IsPermutation-middle (x ∷ []) p xs))
          (IsPermutation-cons x (p ∷ xs) rest.list rest.same);
    }

turned : (p x : Piece) → Greater ≡ compare p.name x.name → SortsBefore x.name p.name
turned p x e = nat_list_cmp_total.antisymm x.name p.name ∙ ap ordering_reverse (sym e)

inserted : (p : Piece) (xs : List Piece) → Rises xs → Each (IsOther p) xs → IsSortable (p ∷ xs)
inserted p [] up other = record { list = p ∷ []; up = (tt, tt); same = IsPermutation-refl (p ∷ []) }
inserted p (x ∷ xs) up other = by_order (compare p.name x.name) refl (inserted p xs up.1 other.1)
  where
    by_order : (o : Ordering) → o ≡ compare p.name x.name → IsSortable (p ∷ xs) → IsSortable (p ∷ (x ∷ xs))
    by_order Less e rest = in_front p x xs up (sym e)
    by_order Equal e rest = absurd (other.0 (exact_bytes p.name x.name (sym e)))
    by_order Greater e rest = behind p x xs up (turned p x e) rest

pub there_once : (pieces : List Piece) (q : Piece) → Has pieces q → 1 ≤ times (names_of pieces) q.name
there_once [] q there = absurd there
there_once (p ∷ pieces) q there = elim there [
  | inl same ↦
      let first : pointwise nat_eq p.name q.name ≡ true = ap (λ (r : Piece). pointwise nat_eq r.name q.name) same ∙ same_name q.name in
      omega (arith, times_same p.name (names_of pieces) q.name first)
  | inr later ↦ let more = there_once pieces q later in omega (arith, more, times_grow p.name (names_of pieces) q.name)
]

others : (p : Piece) (pieces : List Piece) → IsOnce (p ∷ pieces) → (q : Piece) → Has pieces q → IsOther p q
others p pieces once q there same =
    let first : pointwise nat_eq p.name q.name ≡ true = ap (λ (w : List ℕ). pointwise nat_eq w q.name) same ∙ same_name q.name in
    omega (arith, once q.name, times_same p.name (names_of pieces) q.name first, there_once pieces q there)

pub sorted_exists : (pieces : List Piece) → IsOnce pieces → IsSortable pieces
sorted_exists [] once = record { list = []; up = tt; same = IsPermutation-refl [] }
sorted_exists (p ∷ pieces) once =
    let rest = sorted_exists pieces (λ name. omega (arith, once name, times_grow p.name (names_of pieces) name)) in
    let back : (q : Piece) → Has rest.list q → Has pieces q = λ q there. has_from_contains pieces q
    (Contains-permutation rest.list pieces q (IsPermutation-sym pieces rest.list rest.same) (contains_from_has rest.list q there)) in
    let whole = inserted p rest.list rest.up (each_has (IsOther p) rest.list (λ q there. others p pieces once q (back q there))) in
    record {
      list = whole.list;
      up = whole.up;
      same = IsPermutation-trans (p ∷ pieces) (p ∷ rest.list) whole.list (IsPermutation-cons p pieces rest.list rest.same) whole.same;
    }
