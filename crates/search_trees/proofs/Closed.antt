-- Which names stand in a tree: below each branch just its children, and nothing else but the root.
use Rattle.std.proofs.Common.{◌≡◌, ℕ, zero, suc, ◌+◌, ◌<◌, ◌≤◌, List, ◌⊎◌, inl, inr, refl, sym, ap, subst, ◌∙◌, arith, add-zero, zero-add}
use Rattle.std.specs.List.{range_with_len}
use Rattle.certificate.specs.Trees.{Trees, none, grow, children, AreTrees}
use Rattle.search_trees.specs.declared.piece.Piece.{Piece}
use Rattle.search_trees.specs.Name.{Name, child_name, root_name}
use Rattle.search_trees.specs.Pieces.{names_below, names_of, all_below}
use Rattle.search_trees.specs.Trees.{pieces_below, pieces_of}
use Rattle.search_trees.proofs.Has.{Has, has_left, has_right, has_either, has_map, has_from_map, has_flat_map, has_from_flat_map, has_range, in_range}

-- the piece of a name
pub record HasPiece (pieces : List Piece) (name : Name) : Type 0 where
  pub piece : Piece
  pub there : Has pieces piece
  pub named : piece.name ≡ name

-- a branch, and the number of the child that has a name
pub record HasParent (pieces : List Piece) (name : Name) : Type 0 where
  pub parent : Piece
  pub index : ℕ
  pub there : Has pieces parent
  pub child : index < children parent.node
  pub is : name ≡ child_name parent.name index

-- ---- names as lists, and the pieces that they come from

pub piece_of_name : (pieces : List Piece) (name : Name) → Has (names_of pieces) name → HasPiece pieces name
piece_of_name pieces name h =
    let from = has_from_map (λ (p : Piece). p.name) pieces name h in
    record { piece = from.from; there = from.there; named = from.is }

pub name_of_piece : (pieces : List Piece) (name : Name) → HasPiece pieces name → Has (names_of pieces) name
name_of_piece pieces name h = subst (Has (names_of pieces)) h.named (has_map (λ (p : Piece). p.name) pieces h.piece h.there)

pub parent_of_name : (pieces : List Piece) (name : Name) → Has (all_below pieces) name → HasParent pieces name
parent_of_name pieces name h =
    let from = has_from_flat_map names_below pieces name h in
    let child = has_from_map (child_name from.from.name) (range_with_len 0 (children from.from.node)) name from.is in
    let bounds = in_range 0 (children from.from.node) child.from child.there in
    record { parent = from.from; index = child.from; there = from.there; child = omega (arith, bounds.1); is = sym child.is }

pub name_of_parent : (pieces : List Piece) (name : Name) → HasParent pieces name → Has (all_below pieces) name
name_of_parent pieces name h =
    let inside : Has (range_with_len 0 (children h.parent.node)) h.index = has_range 0 (children h.parent.node) h.index (omega arith)
    (omega (arith, h.child)) in
    subst (Has (all_below pieces)) (sym h.is)
    (has_flat_map names_below pieces h.parent (child_name h.parent.name h.index) h.there
    (has_map (child_name h.parent.name) (range_with_len 0 (children h.parent.node)) h.index inside))

-- ---- children are there

-- of trees side by side each is there
pub each_there : (name : Name) (k count j : ℕ) (trees : Trees) → AreTrees count trees → j < count
    → HasPiece (pieces_below name k trees) (child_name name (k + j))
each_there name k zero j trees are lt = absurd (omega arith)
each_there name k (suc count) j none are lt = absurd are
each_there name k (suc count) zero (grow node below beside) are lt =
    record { piece = record { name = child_name name k; node = node }; there = inl refl; named = ap (child_name name) (sym (add-zero k)) }
each_there name k (suc count) (suc j) (grow node below beside) are lt =
    let more = each_there name (k + 1) count j beside are.1 (omega arith) in
    let same : (k + 1) + j ≡ k + suc j = omega arith in
    record {
      piece = more.piece;
      there = inr (has_right (pieces_below (child_name name k) 0 below) (pieces_below name (k + 1) beside) more.piece more.there);
      named = more.named ∙ ap (child_name name) same;
    }

first_there : (name : Name) (count j : ℕ) (trees : Trees) → AreTrees count trees → j < count → HasPiece (pieces_below name 0 trees) (child_name name j)
first_there name count j trees are lt =
    subst (λ (n : ℕ). HasPiece (pieces_below name 0 trees) (child_name name n)) (zero-add j) (each_there name 0 count j trees are lt)

wider : (xs ys : List Piece) (name : Name) → ((p : Piece) → Has xs p → Has ys p) → HasPiece xs name → HasPiece ys name
wider xs ys name h piece = record { piece = piece.piece; there = h piece.piece piece.there; named = piece.named }

-- the children of a piece that is there are there
pub children_there : (name : Name) (k count : ℕ) (trees : Trees) (p : Piece) (j : ℕ) → AreTrees count trees → Has (pieces_below name k trees) p
    → j < children p.node → HasPiece (pieces_below name k trees) (child_name p.name j)
children_there name k zero none p j are h lt = absurd h
children_there name k zero (grow node below beside) p j are h lt = absurd are
children_there name k (suc count) none p j are h lt = absurd are
children_there name k (suc count) (grow node below beside) p j are h lt =
    let under = pieces_below (child_name name k) 0 below in
    let after = pieces_below name (k + 1) beside in
    let whole = pieces_below name k (grow node below beside) in
    let from_under : (q : Piece) → Has under q → Has whole q = λ q there. inr (has_left under after q there) in
    let from_after : (q : Piece) → Has after q → Has whole q = λ q there. inr (has_right under after q there) in
    elim h [
      | inl same ↦
          let own : j < children node = subst (λ (q : Piece). j < children q.node) (sym same) lt in
          let named : (child_name name k) ≡ p.name = ap (λ (q : Piece). q.name) same in
          subst (λ (w : Name). HasPiece whole (child_name w j)) named (wider under whole (child_name (child_name name k) j) from_under
          (first_there (child_name name k) (children node) j below are.0 own))
      | inr later ↦ elim (has_either under after p later) [
        | inl left ↦ wider under whole (child_name p.name j) from_under (children_there (child_name name k) 0 (children node) below p j are.0 left lt)
        | inr right ↦ wider after whole (child_name p.name j) from_after (children_there name (k + 1) count beside p j are.1 right lt)
      ]
    ]

pub tree_children : (tree : Trees) (p : Piece) (j : ℕ) → AreTrees 1 tree → Has (pieces_of tree) p → j < children p.node
    → HasPiece (pieces_of tree) (child_name p.name j)
tree_children none p j are h lt = absurd are
tree_children (grow node below beside) p j are h lt =
    let under = pieces_below root_name 0 below in
    let whole = pieces_of (grow node below beside) in
    let from_under : (q : Piece) → Has under q → Has whole q = λ q there. inr there in
    elim h [
      | inl same ↦
          let own : j < children node = subst (λ (q : Piece). j < children q.node) (sym same) lt in
          let named : root_name ≡ p.name = ap (λ (q : Piece). q.name) same in
          subst (λ (w : Name). HasPiece whole (child_name w j)) named (wider under whole (child_name root_name j) from_under
          (first_there root_name (children node) j below are.0 own))
      | inr later ↦ wider under whole (child_name p.name j) from_under (children_there root_name 0 (children node) below p j are.0 later lt)
    ]

-- ---- and nothing else is

-- one of the trees side by side, or a child of a piece below
abbrev pub IsTopOrChild : Name → ℕ → ℕ → List Piece → Piece → Type 0
IsTopOrChild name k count pieces p =
    ((j : ℕ) × ((k ≤ j) × (j < k + count) × (p.name ≡ child_name name j))) ⊎ HasParent pieces p.name

wider_parent : (xs ys : List Piece) (name : Name) → ((p : Piece) → Has xs p → Has ys p) → HasParent xs name → HasParent ys name
wider_parent xs ys name h parent =
    record { parent = parent.parent; index = parent.index; there = h parent.parent parent.there; child = parent.child; is = parent.is }

pub parents_there : (name : Name) (k count : ℕ) (trees : Trees) (p : Piece) → AreTrees count trees → Has (pieces_below name k trees) p
    → IsTopOrChild name k count (pieces_below name k trees) p
parents_there name k zero none p are h = absurd h
parents_there name k zero (grow node below beside) p are h = absurd are
parents_there name k (suc count) none p are h = absurd are
parents_there name k (suc count) (grow node below beside) p are h =
    let under = pieces_below (child_name name k) 0 below in
    let after = pieces_below name (k + 1) beside in
    let whole = pieces_below name k (grow node below beside) in
    let from_under : (q : Piece) → Has under q → Has whole q = λ q there. inr (has_left under after q there) in
    let from_after : (q : Piece) → Has after q → Has whole q = λ q there. inr (has_right under after q there) in
    elim h [
      | inl same ↦ inl (k, (omega arith, omega arith, sym (ap (λ (q : Piece). q.name) same)))
      | inr later ↦ elim (has_either under after p later) [
        | inl left ↦ elim (parents_there (child_name name k) 0 (children node) below p are.0 left) [
          | inl top ↦ inr (record {
            parent = record { name = child_name name k; node = node };
            index = top.0;
            there = inl refl;
            child = omega (
              arith,
              top.1.1,
            );
            is = top.1.2;
          })
          | inr child ↦ inr (wider_parent under whole p.name from_under child)
        ]
        | inr right ↦ elim (parents_there name (k + 1) count beside p are.1 right) [
          | inl top ↦ inl (top.0, (omega (arith, top.1.0), omega (arith, top.1.1), top.1.2))
          | inr child ↦ inr (wider_parent after whole p.name from_after child)
        ]
      ]
    ]

pub tree_parents : (tree : Trees) (p : Piece) → AreTrees 1 tree → Has (pieces_of tree) p → (root_name ≡ p.name) ⊎ HasParent (pieces_of tree) p.name
tree_parents none p are h = absurd are
tree_parents (grow node below beside) p are h =
    let under = pieces_below root_name 0 below in
    let whole = pieces_of (grow node below beside) in
    let from_under : (q : Piece) → Has under q → Has whole q = λ q there. inr there in
    elim h [
      | inl same ↦ inl (ap (λ (q : Piece). q.name) same)
      | inr later ↦ elim (parents_there root_name 0 (children node) below p are.0 later) [
        | inl top ↦ inr (record {
          parent = record { name = root_name; node = node };
          index = top.0;
          there = inl refl;
          child = omega (
            arith,
            top.1.1,
          );
          is = top.1.2;
        })
        | inr child ↦ inr (wider_parent under whole p.name from_under child)
      ]
    ]
