-- The names of a whole tree with nothing open are those of a tree.
use Rattle.std.proofs.Common.{◌≡◌, ℕ, zero, suc, ◌+◌, ◌<◌, ◌≤◌, Bool, true, false, List, [], ◌∷◌, ◌++◌, refl, sym, ap, subst, ◌∙◌, arith, map, length, Contains, cond}
use Rattle.std.specs.Prelude.{nat_eq}
use Rattle.std.specs.List.{range_with_len}
use Rattle.std.specs.Cmp.Lexicographic.{pointwise, same_text}
use Rattle.std.proofs.lemmas.Bool.{true≢false}
use Rattle.std.proofs.lemmas.List.{append-nil}
use Rattle.std.proofs.lemmas.List.Sums.{sum_by-append}
use Rattle.std.proofs.lemmas.List.Sorted.{IsPermutation-sym, Contains-permutation, sum_by-IsPermutation}
use Rattle.certificate.specs.Trees.{children}
use Rattle.search_trees.specs.declared.piece.Piece.{Piece}
use Rattle.search_trees.specs.Name.{Name, child_name, root_name}
use Rattle.search_trees.specs.Pieces.{names_of, names_below, all_below}
use Rattle.search_trees.specs.Account.{IsWholeTree}
use Rattle.search_trees.specs.Gathering.{times, wanted_names, HasTreeNames}
use Rattle.search_trees.proofs.Counting.{same_name, other_name, times_same, times_other}
use Rattle.search_trees.proofs.Finding.{snoc_same}
use Rattle.search_trees.proofs.Existence.{child-length}

abbrev counts : Name → Name → ℕ
counts name other = cond (pointwise nat_eq other name) 1 0

times_append : (xs ys : List Name) (name : Name) → times (xs ++ ys) name ≡ times xs name + times ys name
times_append xs ys name = sum_by-append (counts name) xs ys

-- ---- children of a name

-- a name is none of a parent's children from one of them on, where it is another's child or an earlier one
no_children : (parent : Name) (start count : ℕ) (name : Name) → ((k : ℕ) → start ≤ k → child_name parent k ≡ name → ⊥)
    → times (map (child_name parent) (range_with_len start count)) name ≡ 0
no_children parent start zero name other = refl
no_children parent start (suc count) name other =
    times_other (child_name parent start) (map (child_name parent) (range_with_len (start + 1) count)) name
    (other_name (child_name parent start) name (other start (omega arith)))
    ∙ no_children parent (start + 1) count name (λ k from. other k (omega arith))

at_most_once : (parent : Name) (start count : ℕ) (name : Name) → times (map (child_name parent) (range_with_len start count)) name ≤ 1
at_most_once parent start zero name = omega arith
at_most_once parent start (suc count) name = by_test (pointwise nat_eq (child_name parent start) name) refl (at_most_once parent (start + 1) count name)
  where
    by_test : (test : Bool) → test ≡ pointwise nat_eq (child_name parent start) name
        → times (map (child_name parent) (range_with_len (start + 1) count)) name ≤ 1
        → times (map (child_name parent) (range_with_len start (suc count))) name ≤ 1
    by_test true e more =
        let same : child_name parent start ≡ name = same_text (child_name parent start) name e in
        let none = no_children parent (start + 1) count name (λ k from is. absurd (omega (arith, (snoc_same parent parent start k (same ∙ sym is)).1, from))) in
        omega (arith, none, times_same (child_name parent start) (map (child_name parent) (range_with_len (start + 1) count)) name (sym e))
    by_test false e more = omega (arith, more, times_other (child_name parent start) (map (child_name parent) (range_with_len (start + 1) count)) name (sym e))

-- a child stands below pieces at most as often as its parent among them
below_at_most : (pieces : List Piece) (parent : Name) (k : ℕ) → times (all_below pieces) (child_name parent k) ≤ times (names_of pieces) parent
below_at_most [] parent k = omega arith
below_at_most (p ∷ pieces) parent k = by_test (pointwise nat_eq p.name parent) refl (below_at_most pieces parent k)
  where
    by_test : (test : Bool) → test ≡ pointwise nat_eq p.name parent → times (all_below pieces) (child_name parent k) ≤ times (names_of pieces) parent
        → times (all_below (p ∷ pieces)) (child_name parent k) ≤ times (names_of (p ∷ pieces)) parent
    by_test true e more =
        omega (
          arith,
          more,
          times_append (names_below p) (all_below pieces) (child_name parent k),
          at_most_once p.name 0 (children p.node) (child_name parent k),
          times_same p.name (names_of pieces) parent (sym e),
        )
    by_test false e more =
        let other : p.name ≡ parent → ⊥ = λ same. true≢false (sym (subst (λ (w : Name). pointwise nat_eq p.name w ≡ true) same (same_name p.name)) ∙ sym e) in
        let none = no_children p.name 0 (children p.node) (child_name parent k) (λ j from is. other (snoc_same p.name parent j k is).0) in
        omega (arith, more, times_append (names_below p) (all_below pieces) (child_name parent k), none, times_other p.name (names_of pieces) parent (sym e))

no_root_below : (pieces : List Piece) → times (all_below pieces) root_name ≡ 0
no_root_below [] = refl
no_root_below (p ∷ pieces) =
    let none = no_children p.name 0 (children p.node) root_name (λ j from is. absurd (omega (arith, ap (λ (w : Name). length w) is, child-length p.name j))) in
    omega (arith, times_append (names_below p) (all_below pieces) root_name, none, no_root_below pieces)

-- ---- each name stands once

-- a name is the root's, or the last step of its way leads from another
data IsMade : Name → Type 0 where
  at_root : IsMade root_name
  at_child : (parent : Name) (k : ℕ) → IsMade (child_name parent k)

made : (name : Name) → IsMade name
made [] = at_root
made (x ∷ name) = in_front x name (made name)
  where
    in_front : (x : ℕ) (name : Name) → IsMade name → IsMade (x ∷ name)
    in_front x name at_root = at_child [] x
    in_front x name (at_child parent k) = at_child (x ∷ parent) k

same_times : (pieces : List Piece) (name : Name) → IsWholeTree pieces [] → times (names_of pieces) name ≡ times (wanted_names pieces) name
same_times pieces name whole =
    sym (sum_by-IsPermutation (counts name) (names_of pieces ++ []) (root_name ∷ all_below pieces) whole
    ∙ ap (λ (names : List Name). times names name) (append-nil (names_of pieces)))

by_making : (pieces : List Piece) (name : Name) → IsMade name → IsWholeTree pieces []
    → ((parent : Name) → length parent < length name → times (names_of pieces) parent ≤ 1) → times (names_of pieces) name ≤ 1
by_making pieces name at_root whole above =
    omega (arith, same_times pieces root_name whole, times_same root_name (all_below pieces) root_name (same_name root_name), no_root_below pieces)
by_making pieces name (at_child parent k) whole above =
    let not_root : root_name ≡ child_name parent k → ⊥ = λ e. absurd (omega (arith, ap (λ (w : Name). length w) e, child-length parent k)) in
    omega (
      arith,
      same_times pieces (child_name parent k) whole,
      times_other root_name (all_below pieces) (child_name parent k)
          (other_name root_name (child_name parent k) not_root),
      below_at_most pieces parent k,
      above parent (omega (arith, child-length parent k)),
    )

once_up_to : (pieces : List Piece) (n : ℕ) (name : Name) → IsWholeTree pieces [] → length name < n → times (names_of pieces) name ≤ 1
once_up_to pieces zero name whole short = absurd (omega arith)
once_up_to pieces (suc n) name whole short = by_making pieces name (made name) whole (λ parent above. once_up_to pieces n parent whole (omega arith))

pub whole_tree_names : (pieces : List Piece) → IsWholeTree pieces [] → HasTreeNames pieces
whole_tree_names pieces whole = record {
  once = λ name. once_up_to pieces (length name + 1) name whole (omega arith);
  complete = λ name wanted. subst (λ (names : List Name). Contains names name) (append-nil (names_of pieces))
      (Contains-permutation (root_name ∷ all_below pieces) (names_of pieces ++ []) name
      (IsPermutation-sym (names_of pieces ++ []) (root_name ∷ all_below pieces) whole) wanted);
  own = λ name there. Contains-permutation (names_of pieces ++ []) (root_name ∷ all_below pieces) name whole
      (subst (λ (names : List Name). Contains names name) (sym (append-nil (names_of pieces))) there);
}
