-- How often names stand, and what a permutation of pieces keeps.
use Rattle.std.proofs.Common.{◌≡◌, ℕ, zero, suc, ◌+◌, ◌<◌, ◌≤◌, Bool, true, false, List, [], ◌∷◌, ◌⊎◌, inl, inr, refl, sym, ap, subst, ◌∙◌, arith, length, get_or, Contains, cond, zero-add}
use Rattle.std.specs.Prelude.{nat_eq}
use Rattle.std.specs.List.{AllByRecursion as Each}
use Rattle.std.specs.List.Sorted.{IsPermutation}
use Rattle.std.specs.Cmp.Lexicographic.{pointwise, same_text, nat_list_eq_equiv}
use Rattle.std.proofs.lemmas.List.Sums.{sum_by-cons}
use Rattle.std.proofs.lemmas.List.Sorted.{IsPermutation-map, IsPermutation-sym, Contains-permutation, sum_by-IsPermutation}
use Rattle.search_trees.specs.declared.piece.Piece.{Piece}
use Rattle.search_trees.specs.Name.{Name, child_name, root_name}
use Rattle.search_trees.specs.Pieces.{names_of}
use Rattle.search_trees.specs.Gathering.{times, wanted_names, IsOnce, HasWantedNames, IsOwn, HasTreeNames, HasDoubledName, LacksName, HasStrayName}
use Rattle.search_trees.specs.Order.{SortsBefore, Rises}
use Rattle.search_trees.proofs.Has.{Has, has_from_contains, contains_from_has}
use Rattle.search_trees.proofs.NameOrder.{not_itself}
use Rattle.search_trees.proofs.Closed.{HasPiece, HasParent, piece_of_name, name_of_piece, parent_of_name, name_of_parent}
use Rattle.search_trees.proofs.Existence.{IsClosed}

-- ---- how often a name stands

pub same_name : (a : Name) → pointwise nat_eq a a ≡ true
same_name a = nat_list_eq_equiv.refl a

pub other_name : (a b : Name) → (a ≡ b → ⊥) → pointwise nat_eq a b ≡ false
other_name a b other = by_test (pointwise nat_eq a b) refl
  where
    by_test : (test : Bool) → test ≡ pointwise nat_eq a b → pointwise nat_eq a b ≡ false
    by_test true e = absurd (other (same_text a b e))
    by_test false e = sym e

one_more : (a : Name) (names : List Name) (name : Name) (test : Bool) → pointwise nat_eq a name ≡ test
    → times (a ∷ names) name ≡ cond test 1 0 + times names name
one_more a names name test e =
    sum_by-cons (λ (other : Name). cond (pointwise nat_eq other name) 1 0) a names ∙ ap (λ (b : Bool). cond b 1 0 + times names name) e

pub times_same : (a : Name) (names : List Name) (name : Name) → pointwise nat_eq a name ≡ true → times (a ∷ names) name ≡ 1 + times names name
times_same a names name e = one_more a names name true e

pub times_other : (a : Name) (names : List Name) (name : Name) → pointwise nat_eq a name ≡ false → times (a ∷ names) name ≡ times names name
times_other a names name e = one_more a names name false e ∙ zero-add (times names name)

pub times_grow : (a : Name) (names : List Name) (name : Name) → times names name ≤ times (a ∷ names) name
times_grow a names name = omega (arith, one_more a names name (pointwise nat_eq a name) refl)

none_later : (pieces : List Piece) (name : Name) → Each (λ (later : Piece). SortsBefore name later.name) pieces → times (names_of pieces) name ≡ 0
none_later [] name after = refl
none_later (p ∷ pieces) name after =
    let other : pointwise nat_eq p.name name ≡ false = other_name p.name name (λ e. not_itself name (subst (SortsBefore name) e after.0)) in
    times_other p.name (names_of pieces) name other ∙ none_later pieces name after.1

pub once_rising : (pieces : List Piece) (name : Name) → Rises pieces → times (names_of pieces) name ≤ 1
once_rising [] name up = omega arith
once_rising (p ∷ pieces) name up = by_test (pointwise nat_eq p.name name) refl (once_rising pieces name up.1)
  where
    by_test : (test : Bool) → test ≡ pointwise nat_eq p.name name → times (names_of pieces) name ≤ 1 → times (names_of (p ∷ pieces)) name ≤ 1
    by_test true e more =
        let is : p.name ≡ name = same_text p.name name e in
        let rest = none_later pieces name (subst (λ (w : Name). Each (λ (later : Piece). SortsBefore w later.name) pieces) is up.0) in
        omega (arith, rest, times_same p.name (names_of pieces) name (sym e))
    by_test false e more = omega (arith, more, times_other p.name (names_of pieces) name (sym e))

-- neighbours of one name
first_twice : (a b : Name) (names : List Name) → a ≡ b → 2 ≤ times (a ∷ (b ∷ names)) a
first_twice a b names same =
    let second : pointwise nat_eq b a ≡ true = subst (λ (w : Name). pointwise nat_eq w a ≡ true) same (same_name a) in
    omega (arith, times_same a (b ∷ names) a (same_name a), times_same b names a second)

pub twice : (names : List Name) (k : ℕ) → suc k < length names → get_or names k [] ≡ get_or names (suc k) [] → 2 ≤ times names (get_or names k [])
twice [] k lt same = absurd (omega arith)
twice (a ∷ []) k lt same = absurd (omega arith)
twice (a ∷ b ∷ names) zero lt same = first_twice a b names same
twice (a ∷ b ∷ names) (suc k) lt same =
    let more = twice (b ∷ names) k (omega arith) same in
    omega (arith, more, times_grow a (b ∷ names) (get_or (b ∷ names) k []))

-- ---- permutations

pub times_move : (xs ys : List Piece) (name : Name) → IsPermutation xs ys → times (names_of ys) name ≡ times (names_of xs) name
times_move xs ys name moved =
    sum_by-IsPermutation (λ (other : Name). cond (pointwise nat_eq other name) 1 0) (names_of xs) (names_of ys)
    (IsPermutation-map (λ (p : Piece). p.name) xs ys moved)

pub names_move : (xs ys : List Piece) (name : Name) → IsPermutation xs ys → Contains (names_of xs) name → Contains (names_of ys) name
names_move xs ys name moved there =
    Contains-permutation (names_of xs) (names_of ys) name (IsPermutation-map (λ (p : Piece). p.name) xs ys moved) there

has_moves : (xs ys : List Piece) (p : Piece) → IsPermutation xs ys → Has xs p → Has ys p
has_moves xs ys p moved there = has_from_contains ys p (Contains-permutation xs ys p moved (contains_from_has xs p there))

parent_moves : (xs ys : List Piece) (name : Name) → IsPermutation xs ys → HasParent xs name → HasParent ys name
parent_moves xs ys name moved parent =
    record { parent = parent.parent; index = parent.index; there = has_moves xs ys parent.parent moved parent.there; child = parent.child; is = parent.is }

pub wanted_moves : (xs ys : List Piece) (name : Name) → IsPermutation xs ys → Contains (wanted_names xs) name → Contains (wanted_names ys) name
wanted_moves xs ys name moved there = contains_from_has (wanted_names ys) name (by_cases (has_from_contains (wanted_names xs) name there))
  where
    by_cases : Has (wanted_names xs) name → Has (wanted_names ys) name
    by_cases (inl same) = inl same
    by_cases (inr below) = inr (name_of_parent ys name (parent_moves xs ys name moved (parent_of_name xs name below)))

pub once_moves : (xs ys : List Piece) → IsPermutation xs ys → IsOnce xs → IsOnce ys
once_moves xs ys moved once name = omega (arith, times_move xs ys name moved, once name)

pub complete_moves : (xs ys : List Piece) → IsPermutation xs ys → HasWantedNames xs → HasWantedNames ys
complete_moves xs ys moved complete name wanted =
    names_move xs ys name moved (complete name (wanted_moves ys xs name (IsPermutation-sym xs ys moved) wanted))

pub own_moves : (xs ys : List Piece) → IsPermutation xs ys → IsOwn xs → IsOwn ys
own_moves xs ys moved own name there =
    wanted_moves xs ys name moved (own name (names_move ys xs name (IsPermutation-sym xs ys moved) there))

pub tree_names_move : (xs ys : List Piece) → IsPermutation xs ys → HasTreeNames xs → HasTreeNames ys
tree_names_move xs ys moved names =
    record { once = once_moves xs ys moved names.once; complete = complete_moves xs ys moved names.complete; own = own_moves xs ys moved names.own }

pub doubled_moves : (xs ys : List Piece) → IsPermutation xs ys → HasDoubledName xs → HasDoubledName ys
doubled_moves xs ys moved doubled =
    record { name = doubled.name; twice = omega (arith, times_move xs ys doubled.name moved, doubled.twice) }

pub lacks_moves : (xs ys : List Piece) → IsPermutation xs ys → LacksName xs → LacksName ys
lacks_moves xs ys moved lacks = record {
  name = lacks.name;
  wanted = wanted_moves xs ys lacks.name moved lacks.wanted;
  lacking = λ there. lacks.lacking (names_move ys xs lacks.name (IsPermutation-sym xs ys moved) there);
}

pub stray_moves : (xs ys : List Piece) → IsPermutation xs ys → HasStrayName xs → HasStrayName ys
stray_moves xs ys moved stray = record {
  name = stray.name;
  there = names_move xs ys stray.name moved stray.there;
  unwanted = λ wanted. stray.unwanted (wanted_moves ys xs stray.name (IsPermutation-sym xs ys moved) wanted);
}

-- ---- names of a tree, by pieces

pub closed_by_names : (pieces : List Piece) → HasTreeNames pieces → IsClosed pieces
closed_by_names pieces names = record {
  root = found root_name (inl refl);
  below =
      λ p j there lt. found (child_name p.name j)
      (inr (name_of_parent pieces (child_name p.name j) (record { parent = p; index = j; there = there; child = lt; is = refl })));
  own =
      λ p there. by_cases p (has_from_contains (wanted_names pieces) p.name (names.own p.name
      (contains_from_has (names_of pieces) p.name (name_of_piece pieces p.name (record { piece = p; there = there; named = refl })))));
}
  where
    found : (name : Name) → Has (wanted_names pieces) name → HasPiece pieces name
    found name wanted =
        piece_of_name pieces name (has_from_contains (names_of pieces) name (names.complete name (contains_from_has (wanted_names pieces) name wanted)))

    by_cases : (p : Piece) → Has (wanted_names pieces) p.name → (root_name ≡ p.name) ⊎ HasParent pieces p.name
    by_cases p (inl same) = inl same
    by_cases p (inr below) = inr (parent_of_name pieces p.name below)

pub names_by_closed : (pieces : List Piece) → Rises pieces → IsClosed pieces → HasTreeNames pieces
names_by_closed pieces up closed = record {
  once = λ name. once_rising pieces name up;
  complete =
      λ name wanted. contains_from_has (names_of pieces) name (name_of_piece pieces name (found name (has_from_contains (wanted_names pieces) name wanted)));
  own = λ name there. contains_from_has (wanted_names pieces) name (wanted name (piece_of_name pieces name (has_from_contains (names_of pieces) name there)));
}
  where
    found : (name : Name) → Has (wanted_names pieces) name → HasPiece pieces name
    found name (inl same) = subst (HasPiece pieces) same closed.root
    found name (inr below) =
        let parent = parent_of_name pieces name below in
        subst (HasPiece pieces) (sym parent.is) (closed.below parent.parent parent.index parent.there parent.child)

    wanted : (name : Name) → HasPiece pieces name → Has (wanted_names pieces) name
    wanted name piece = elim (closed.own piece.piece piece.there) [
      | inl is_root ↦ inl (is_root ∙ piece.named)
      | inr parent ↦ inr (name_of_parent pieces name (subst (HasParent pieces) piece.named parent))
    ]
