-- What the steps of the search for faults show.
use Rattle.std.proofs.Common.{◌≡◌, ℕ, zero, suc, ◌+◌, ◌-◌, ◌<◌, ◌≤◌, false, List, [], ◌∷◌, ◌++◌, ◌⊎◌, inl, inr, refl, sym, ap, subst, ◌∙◌, arith, length, get_or, Contains, length-append}
use Rattle.std.specs.List.{AllByRecursion as Each, AllWithin, HoldsAt}
use Rattle.std.specs.List.Sorted.{IsNonDecreasingBy, IsPartitionPoint}
use Rattle.std.specs.Ordering.{ordering_index, ordering_reverse, is_lt}
use Rattle.std.specs.declared.cmp.Ordering.{Ordering}
use Rattle.std.specs.declared.cmp.Ordering.TheVariants.{Less, Equal, Greater}
use Rattle.std.specs.Cmp.{tied_itself}
use Rattle.std.proofs.lemmas.Bool.{false≢true}
use Rattle.std.proofs.lemmas.Cmp.{nat_list_cmp_total}
use Rattle.std.proofs.lemmas.Map.Lookups.{exact_bytes}
use Rattle.std.proofs.lemmas.List.Elements.{Contains-get_or}
use Rattle.std.proofs.lemmas.List.Sorted.{searchable_from_sorted}
use Rattle.certificate.specs.Trees.{children}
use Rattle.search_trees.specs.declared.piece.Piece.{Piece}
use Rattle.search_trees.specs.Name.{Name, child_name, root_name}
use Rattle.search_trees.specs.Pieces.{names_of, all_below}
use Rattle.search_trees.specs.Gathering.{wanted_names, HasDoubledName, LacksName, HasStrayName, HasWantedNames, IsOwn}
use Rattle.search_trees.specs.Order.{compare, SortsBefore, IsSorted, Rises, IsSameAsBefore, HasEachChild, LacksChild, IsWanted}
use Rattle.search_trees.proofs.Has.{Has, has_from_contains, contains_from_has}
use Rattle.search_trees.proofs.NameOrder.{before_both}
use Rattle.search_trees.proofs.Rising.{one_of_name}
use Rattle.search_trees.proofs.Closed.{piece_of_name, name_of_piece, parent_of_name, name_of_parent}
use Rattle.search_trees.proofs.Counting.{twice}

-- ---- neighbours

name_at : (pieces : List Piece) (k : ℕ) (d : Piece) → k < length pieces → get_or (names_of pieces) k [] ≡ (get_or pieces k d).name
name_at [] k d lt = absurd (omega arith)
name_at (p ∷ pieces) zero d lt = refl
name_at (p ∷ pieces) (suc k) d lt = name_at pieces k d (omega arith)

names_length : (pieces : List Piece) → length (names_of pieces) ≡ length pieces
names_length [] = refl
names_length (p ∷ pieces) = ap suc (names_length pieces)

some_piece : (pieces : List Piece) (k : ℕ) → k < length pieces → Piece
some_piece [] k lt = absurd (omega arith)
some_piece (p ∷ pieces) k lt = p

pub doubled_at : (pieces : List Piece) (k : ℕ) → suc k < length pieces → IsSameAsBefore pieces (suc k) → HasDoubledName pieces
doubled_at pieces k lt same =
    let d = some_piece pieces k (omega arith) in
    let before : suc k - 1 ≡ k = omega arith in
    let names : get_or (names_of pieces) k [] ≡ get_or (names_of pieces) (suc k) [] =
    name_at pieces k d (omega arith) ∙ ap (λ (n : ℕ). (get_or pieces n d).name) (sym before) ∙ sym (same d) ∙ sym (name_at pieces (suc k) d lt) in
    record { name = get_or (names_of pieces) k []; twice = twice (names_of pieces) k (omega (arith, names_length pieces)) names }

pub doubled_before : (pieces : List Piece) (k : ℕ) → 0 < k → k < length pieces → IsSameAsBefore pieces k → HasDoubledName pieces
doubled_before pieces zero low lt same = absurd (omega arith)
doubled_before pieces (suc k) low lt same = doubled_at pieces k lt same

rises_by_two : (x y : Piece) (pieces : List Piece) → SortsBefore x.name y.name → Rises (y ∷ pieces) → Rises (x ∷ (y ∷ pieces))
rises_by_two x y pieces first up = ((first, after pieces up.0), up)
  where
    after : (ps : List Piece) → Each (λ (q : Piece). SortsBefore y.name q.name) ps → Each (λ (q : Piece). SortsBefore x.name q.name) ps
    after [] each = tt
    after (q ∷ ps) each = (before_both x.name y.name q.name first each.0, after ps each.1)

rises_by_steps : (pieces : List Piece)
    → ((k : ℕ) (d : Piece) → suc k < length pieces → SortsBefore (get_or pieces k d).name (get_or pieces (suc k) d).name) → Rises pieces
rises_by_steps [] step = tt
rises_by_steps (x ∷ []) step = (tt, tt)
rises_by_steps (x ∷ y ∷ pieces) step =
    rises_by_two x y pieces (step 0 x (omega arith)) (rises_by_steps (y ∷ pieces) (λ k d lt. step (suc k) d (omega arith)))

less_by_not : (a b : Name) → is_lt (compare b a) ≡ false → (b ≡ a → ⊥) → SortsBefore a b
less_by_not a b not_less other = by_order (compare a b) refl
  where
    by_order : (o : Ordering) → o ≡ compare a b → compare a b ≡ Less
    by_order Less e = sym e
    by_order Equal e = absurd (other (sym (exact_bytes a b (sym e))))
    by_order Greater e = absurd (false≢true (sym not_less ∙ ap is_lt (nat_list_cmp_total.antisymm b a ∙ ap ordering_reverse (sym e))))

pub rises_when_other : (pieces : List Piece) → IsSorted pieces → ((k : ℕ) → 0 < k → k < length pieces → ¬ IsSameAsBefore pieces k) → Rises pieces
rises_when_other pieces sorted other = rises_by_steps pieces step
  where
    step : (k : ℕ) (d : Piece) → suc k < length pieces → SortsBefore (get_or pieces k d).name (get_or pieces (suc k) d).name
    step k d lt =
        let next : k + 1 ≡ suc k = omega arith in
        let before : suc k - 1 ≡ k = omega arith in
        let lower : is_lt (compare (get_or pieces (suc k) d).name (get_or pieces k d).name) ≡ false =
        subst (λ (n : ℕ). is_lt (compare (get_or pieces n d).name (get_or pieces k d).name) ≡ false) next (sorted k d (omega arith) (omega arith)) in
        less_by_not (get_or pieces k d).name (get_or pieces (suc k) d).name lower
        (λ same. other (suc k) (omega arith) lt (λ e.
        sym (name_at pieces (suc k) e lt) ∙ name_at pieces (suc k) d lt ∙ same ∙ sym (name_at pieces k d (omega arith))
        ∙ name_at pieces k e (omega arith) ∙ ap (λ (n : ℕ). (get_or pieces n e).name) (sym before)))

-- ---- a search

pub found_at : (pieces : List Piece) (name : Name) (k : ℕ) → HoldsAt (λ (p : Piece). compare p.name name ≡ Equal) pieces k
    → HoldsAt (λ (p : Piece). p.name ≡ name) pieces k
found_at pieces name k holds d = exact_bytes (get_or pieces k d).name name (holds d)

pub not_found : (pieces : List Piece) (name : Name) (k : ℕ) → IsSorted pieces
    → (IsNonDecreasingBy (λ (p : Piece). ordering_index (compare p.name name)) pieces
    → IsPartitionPoint (λ (p : Piece). compare p.name name ≡ Less) (λ (p : Piece). compare p.name name ≡ Greater) pieces k)
    → ¬ Contains (names_of pieces) name
not_found pieces name k sorted around there =
    let parted = around (searchable_from_sorted nat_list_cmp_total (λ (p : Piece). p.name) pieces name sorted) in
    let piece = piece_of_name pieces name (has_from_contains (names_of pieces) name there) in
    let place = contains_from_has pieces piece.piece piece.there in
    let same : (get_or pieces place.0 piece.piece).name ≡ name = ap (λ (p : Piece). p.name) place.2 ∙ piece.named in
    let equal : compare (get_or pieces place.0 piece.piece).name name ≡ Equal = ap (λ (w : Name). compare w name) same
    ∙ tied_itself {R = compare} nat_list_cmp_total name in
    elim (order_of place.0 k) [
      | inl below ↦ let less = parted.0 place.0 piece.piece (omega arith) below in cc
      | inr from ↦ let greater = parted.1 place.0 piece.piece from place.1 in cc
    ]
  where
    order_of : (a b : ℕ) → (a < b) ⊎ (b ≤ a)
    order_of a b = grind arith

pub has_at_place : (pieces : List Piece) (name : Name) (k : ℕ) → k < length pieces → HoldsAt (λ (p : Piece). p.name ≡ name) pieces k
    → Contains (names_of pieces) name
has_at_place pieces name k lt holds =
    let d = some_piece pieces k lt in
    contains_from_has (names_of pieces) name
    (name_of_piece pieces name (record {
      piece = get_or pieces k d;
      there = has_from_contains pieces (get_or pieces k d)
          (Contains-get_or pieces k d lt);
      named = holds d;
    }))

-- ---- what lacks

pub lacks_root : (pieces : List Piece) → ¬ Contains (names_of pieces) root_name → LacksName pieces
lacks_root pieces lacking = record { name = root_name; wanted = contains_from_has (wanted_names pieces) root_name (inl refl); lacking = lacking }

pub lacks_child : (pieces : List Piece) (p : Piece) → Contains pieces p → LacksChild pieces p → LacksName pieces
lacks_child pieces p there lacks = record {
  name = child_name p.name lacks.index;
  wanted = contains_from_has (wanted_names pieces) (child_name p.name lacks.index)
      (inr (name_of_parent pieces (child_name p.name lacks.index)
      (record { parent = p; index = lacks.index; there = has_from_contains pieces p there; child = lacks.child; is = refl })));
  lacking = lacks.lacking;
}

pub complete_by_all : (pieces : List Piece) → Contains (names_of pieces) root_name → AllWithin (HasEachChild pieces) pieces 0 (length pieces)
    → HasWantedNames pieces
complete_by_all pieces root all name wanted = by_cases (has_from_contains (wanted_names pieces) name wanted)
  where
    by_cases : Has (wanted_names pieces) name → Contains (names_of pieces) name
    by_cases (inl same) = subst (Contains (names_of pieces)) same root
    by_cases (inr below) =
        let parent = parent_of_name pieces name below in
        let place = contains_from_has pieces parent.parent parent.there in
        let has : HasEachChild pieces parent.parent = subst (HasEachChild pieces) place.2 (all place.0 parent.parent (omega arith) place.1) in
        subst (Contains (names_of pieces)) (sym parent.is) (has parent.index parent.child)

-- ---- what is wanted

pub snoc_same : (a b : Name) (j k : ℕ) → child_name a j ≡ child_name b k → (a ≡ b) × (j ≡ k)
snoc_same [] [] j k e = (refl, cc)
snoc_same [] (y ∷ b) j k e = absurd (omega (arith, ap (λ (w : Name). length w) e, length-append b (k ∷ [])))
snoc_same (x ∷ a) [] j k e = absurd (omega (arith, ap (λ (w : Name). length w) e, length-append a (j ∷ [])))
snoc_same (x ∷ a) (y ∷ b) j k e =
    let first : x ≡ y = cc in
    let others : child_name a j ≡ child_name b k = cc in
    let rest = snoc_same a b j k others in
    (ap (λ (n : ℕ). n ∷ a) first ∙ ap (λ (w : Name). y ∷ w) rest.0, rest.1)

pub child_by_place : (pieces : List Piece) (parent : Name) (index k : ℕ) (p : Piece) → k < length pieces → p ≡ get_or pieces k p
    → HoldsAt (λ (q : Piece). q.name ≡ parent) pieces k → index < children p.node
    → Contains (all_below pieces) (child_name parent index)
child_by_place pieces parent index k p lt is holds child =
    let named : p.name ≡ parent = ap (λ (q : Piece). q.name) is ∙ holds p in
    let there : Has pieces p = subst (Has pieces) (sym is) (has_from_contains pieces (get_or pieces k p) (Contains-get_or pieces k p lt)) in
    contains_from_has (all_below pieces) (child_name parent index)
    (name_of_parent pieces (child_name parent index)
    (record { parent = p; index = index; there = there; child = child; is = ap (λ (w : Name). child_name w index) (sym named) }))

pub place_of_child : (pieces : List Piece) (parent : Name) (index k : ℕ) (p : Piece) → Rises pieces → k < length pieces → p ≡ get_or pieces k p
    → HoldsAt (λ (q : Piece). q.name ≡ parent) pieces k
    → Contains (all_below pieces) (child_name parent index) → index < children p.node
place_of_child pieces parent index k p up lt is holds there =
    let child = parent_of_name pieces (child_name parent index) (has_from_contains (all_below pieces) (child_name parent index) there) in
    let same = snoc_same parent child.parent.name index child.index child.is in
    let named : p.name ≡ parent = ap (λ (q : Piece). q.name) is ∙ holds p in
    let here : Has pieces p = subst (Has pieces) (sym is) (has_from_contains pieces (get_or pieces k p) (Contains-get_or pieces k p lt)) in
    let one : child.parent ≡ p = one_of_name pieces child.parent p up child.there here (sym (named ∙ same.0)) in
    let number : children child.parent.node ≡ children p.node = ap (λ (q : Piece). children q.node) one in
    omega (arith, child.child, number, same.1)

pub no_child : (pieces : List Piece) (parent : Name) (index : ℕ) → ¬ Contains (names_of pieces) parent → ¬ Contains (all_below pieces) (child_name parent index)
no_child pieces parent index lacking there =
    let child = parent_of_name pieces (child_name parent index) (has_from_contains (all_below pieces) (child_name parent index) there) in
    let same = snoc_same parent child.parent.name index child.index child.is in
    lacking (contains_from_has (names_of pieces) parent (name_of_piece pieces parent
    (record { piece = child.parent; there = child.there; named = sym same.0 })))

pub wanted_root : (pieces : List Piece) (name : Name) → length name ≡ 0 → IsWanted pieces name
wanted_root pieces [] e = contains_from_has (wanted_names pieces) [] (inl refl)
wanted_root pieces (x ∷ name) e = absurd (omega arith)

pub wanted_child : (pieces : List Piece) (parent : Name) (index : ℕ) (name : Name) → name ≡ parent ++ index ∷ []
    → Contains (all_below pieces) (child_name parent index) → IsWanted pieces name
wanted_child pieces parent index name e there =
    subst (IsWanted pieces) (sym e) (contains_from_has (wanted_names pieces) (child_name parent index)
    (inr (has_from_contains (all_below pieces) (child_name parent index) there)))

pub child_wanted : (pieces : List Piece) (parent : Name) (index : ℕ) (name : Name) → name ≡ parent ++ index ∷ [] → IsWanted pieces name
    → Contains (all_below pieces) (child_name parent index)
child_wanted pieces parent index name e wanted = by_cases (has_from_contains (wanted_names pieces) (child_name parent index) (subst (IsWanted pieces) e wanted))
  where
    by_cases : Has (wanted_names pieces) (child_name parent index) → Contains (all_below pieces) (child_name parent index)
    by_cases (inl same) = absurd (omega (arith, ap (λ (w : Name). length w) same, length-append parent (index ∷ [])))
    by_cases (inr below) = contains_from_has (all_below pieces) (child_name parent index) below

pub stray_at : (pieces : List Piece) (p : Piece) → Contains pieces p → ¬ IsWanted pieces p.name → HasStrayName pieces
stray_at pieces p there unwanted = record {
  name = p.name;
  there =
      contains_from_has (names_of pieces) p.name (name_of_piece pieces p.name (record { piece = p; there = has_from_contains pieces p there; named = refl }));
  unwanted = unwanted;
}

pub own_by_all : (pieces : List Piece) → AllWithin (λ (p : Piece). IsWanted pieces p.name) pieces 0 (length pieces) → IsOwn pieces
own_by_all pieces all name there =
    let piece = piece_of_name pieces name (has_from_contains (names_of pieces) name there) in
    let place = contains_from_has pieces piece.piece piece.there in
    subst (IsWanted pieces) (ap (λ (p : Piece). p.name) place.2 ∙ piece.named) (all place.0 piece.piece (omega arith) place.1)
