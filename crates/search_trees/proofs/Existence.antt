-- The tree of pieces that have the names of a tree, where they stand in the order of their names.
use Rattle.std.proofs.Common.{◌≡◌, ℕ, zero, suc, ◌+◌, ◌<◌, ◌≤◌, List, [], ◌∷◌, ◌++◌, ◌⊎◌, inl, inr, refl, sym, ap, subst, ◌∙◌, arith, zero-add, map, length, max, length-append}
use Rattle.std.proofs.lemmas.List.{map-append, append-nil}
use Rattle.certificate.specs.declared.node.Node.{Node}
use Rattle.certificate.specs.Trees.{Trees, none, grow, children, AreTrees, levels, preorder}
use Rattle.search_trees.specs.declared.piece.Piece.{Piece}
use Rattle.search_trees.specs.Name.{Name, child_name, root_name}
use Rattle.search_trees.specs.Trees.{pieces_below, pieces_of}
use Rattle.search_trees.specs.Order.{Rises}
use Rattle.search_trees.proofs.Has.{Has, has_left, has_right, has_either}
use Rattle.search_trees.proofs.Rising.{one_of_name, same_list, pieces_rise}
use Rattle.search_trees.proofs.Closed.{HasPiece, HasParent, tree_children}

-- the root is there, below each branch just its children, and nothing else
pub record IsClosed (pieces : List Piece) : Type 0 where
  pub root : HasPiece pieces root_name
  pub below : (p : Piece) (j : ℕ) → Has pieces p → j < children p.node → HasPiece pieces (child_name p.name j)
  pub own : (p : Piece) → Has pieces p → (root_name ≡ p.name) ⊎ HasParent pieces p.name

-- trees that are made of pieces
record Made (pieces : List Piece) (name : Name) (k count : ℕ) : Type 0 where
  trees : Trees
  are : AreTrees count trees
  from : (p : Piece) → Has (pieces_below name k trees) p → Has pieces p

pub child-length : (name : Name) (k : ℕ) → length (child_name name k) ≡ length name + 1
child-length name k = length-append name (k ∷ [])

-- a piece and what is made below it, in front of what is made beside it
in_front : (pieces : List Piece) (name : Name) (k count : ℕ) (here : HasPiece pieces (child_name name k))
    → Made pieces (child_name name k) 0 (children here.piece.node) → Made pieces name (k + 1) count → Made pieces name k (suc count)
in_front pieces name k count here under beside =
    let is : record { name = child_name name k; node = here.piece.node } ≡ here.piece = ap
    (λ (w : Name). record { name = w; node = here.piece.node }) (sym here.named) in
    record {
      trees = grow here.piece.node under.trees beside.trees;
      are = (under.are, beside.are);
      from = λ p h. elim h [
        | inl same ↦ subst (Has pieces) (sym is ∙ same) here.there
        | inr later ↦ elim (has_either (pieces_below (child_name name k) 0 under.trees) (pieces_below name (k + 1) beside.trees) p later) [
          | inl left ↦ under.from p left
          | inr right ↦ beside.from p right
        ]
      ];
    }

side_by_side : (pieces : List Piece) (name : Name) (k count : ℕ)
    → ((p : Piece) → Has pieces p → length p.name ≡ length name + 1 → Made pieces p.name 0 (children p.node))
    → ((j : ℕ) → j < count → HasPiece pieces (child_name name (k + j)))
    → Made pieces name k count
side_by_side pieces name k zero below there = record { trees = none; are = tt; from = λ p h. absurd h }
side_by_side pieces name k (suc count) below there =
    let first : k + 0 ≡ k = omega arith in
    let here : HasPiece pieces (child_name name k) = subst (λ (n : ℕ). HasPiece pieces (child_name name n)) first (there 0 (omega arith)) in
    let long : length here.piece.name ≡ length name + 1 = ap (λ (w : Name). length w) here.named ∙ child-length name k in
    let under : Made pieces (child_name name k) 0 (children here.piece.node) = subst (λ (w : Name). Made pieces w 0 (children here.piece.node))
    here.named (below here.piece here.there long) in
    in_front pieces name k count here under
    (side_by_side pieces name (k + 1) count below (λ j lt. let next : k + suc j ≡ (k + 1) + j = omega arith in subst
    (λ (n : ℕ). HasPiece pieces (child_name name n)) next (there (suc j) (omega arith))))

-- a piece's children, by their number alone
from_none : (pieces : List Piece) (p : Piece) → IsClosed pieces → Has pieces p → (j : ℕ) → j < children p.node → HasPiece pieces (child_name p.name (0 + j))
from_none pieces p closed there j lt =
    subst (λ (n : ℕ). HasPiece pieces (child_name p.name n)) (sym (zero-add j)) (closed.below p j there lt)

made : (pieces : List Piece) (most left : ℕ) (p : Piece) → IsClosed pieces → ((q : Piece) → Has pieces q → length q.name ≤ most) → Has pieces p
    → most ≤ length p.name + left
    → Made pieces p.name 0 (children p.node)
made pieces most zero p closed deep there room =
    side_by_side pieces p.name 0 (children p.node) (λ q has long. absurd (omega (arith, deep q has, long, room))) (from_none pieces p closed there)
made pieces most (suc left) p closed deep there room =
    side_by_side pieces p.name 0 (children p.node) (λ q has long. made pieces most left q closed deep has (omega (arith, long, room)))
    (from_none pieces p closed there)

-- the longest name's length
longest : List Piece → ℕ
longest [] = 0
longest (p ∷ ps) = max (length p.name) (longest ps)

at_most_longest : (pieces : List Piece) (p : Piece) → Has pieces p → length p.name ≤ longest pieces
unfolding longest
at_most_longest [] p h = absurd h
at_most_longest (q ∷ pieces) p h = elim h [
  | inl same ↦ let e : length q.name ≡ length p.name = ap (λ (r : Piece). length r.name) same in omega arith
  | inr later ↦ let le = at_most_longest pieces p later in omega arith
]

-- ---- all pieces are in the tree

by_root : (pieces : List Piece) (tree : Trees) (p : Piece) → Rises pieces → ((q : Piece) → Has (pieces_of tree) q → Has pieces q)
    → HasPiece (pieces_of tree) root_name → Has pieces p → root_name ≡ p.name
    → Has (pieces_of tree) p
by_root pieces tree p up from root there is_root =
    subst (Has (pieces_of tree)) (one_of_name pieces root.piece p up (from root.piece root.there) there (root.named ∙ is_root)) root.there

by_parent : (pieces : List Piece) (tree : Trees) (p : Piece) → Rises pieces → AreTrees 1 tree → ((q : Piece) → Has (pieces_of tree) q → Has pieces q)
    → Has pieces p → (child : HasParent pieces p.name)
    → Has (pieces_of tree) child.parent → Has (pieces_of tree) p
by_parent pieces tree p up are from there child above =
    let again = tree_children tree child.parent child.index are above child.child in
    subst (Has (pieces_of tree)) (one_of_name pieces again.piece p up (from again.piece again.there) there (again.named ∙ sym child.is)) again.there

longer : (pieces : List Piece) (p : Piece) (child : HasParent pieces p.name) → length p.name ≡ length child.parent.name + 1
longer pieces p child = ap (λ (w : Name). length w) child.is ∙ child-length child.parent.name child.index

reached : (pieces : List Piece) (tree : Trees) (n : ℕ) (p : Piece) → Rises pieces → IsClosed pieces → AreTrees 1 tree
    → ((q : Piece) → Has (pieces_of tree) q → Has pieces q)
    → HasPiece (pieces_of tree) root_name → Has pieces p → length p.name ≤ n → Has (pieces_of tree) p
reached pieces tree zero p up closed are from root there short = elim (closed.own p there) [
  | inl is_root ↦ by_root pieces tree p up from root there is_root
  | inr child ↦ absurd (omega (arith, longer pieces p child, short))
]
reached pieces tree (suc m) p up closed are from root there short = elim (closed.own p there) [
  | inl is_root ↦ by_root pieces tree p up from root there is_root
  | inr child ↦ by_parent pieces tree p up are from there child
      (reached pieces tree m child.parent up closed are from root child.there (omega (arith, longer pieces p child, short)))
]

-- a tree whose pieces are these
pub record IsListOf (pieces : List Piece) : Type 0 where
  pub tree : Trees
  pub one : AreTrees 1 tree
  pub is : pieces_of tree ≡ pieces

pub tree_exists : (pieces : List Piece) → Rises pieces → IsClosed pieces → IsListOf pieces
tree_exists pieces up closed =
    let root = closed.root in
    let under : Made pieces root_name 0 (children root.piece.node) =
    subst (λ (w : Name). Made pieces w 0 (children root.piece.node)) root.named (made pieces (longest pieces) (longest pieces) root.piece closed
    (at_most_longest pieces) root.there (omega arith)) in
    let tree = grow root.piece.node under.trees none in
    let top : record { name = root_name; node = root.piece.node } ≡ root.piece = ap (λ (w : Name). record { name = w; node = root.piece.node })
    (sym root.named) in
    let from : (p : Piece) → Has (pieces_of tree) p → Has pieces p = λ p h. elim h [
      | inl same ↦ subst (Has pieces) (sym top ∙ same) root.there
      | inr later ↦ under.from p later
    ] in
    let first : HasPiece (pieces_of tree) root_name = record { piece = record { name = root_name; node = root.piece.node }; there = inl refl; named = refl } in
    record {
      tree = tree;
      one = (under.are, tt);
      is =
          same_list (pieces_of tree) pieces (pieces_rise tree) up from (λ p h. reached pieces tree (length p.name) p up closed (
            under.are,
            tt,
          ) from first h (omega arith));
    }

-- ---- its nodes and its height

nodes_below : (name : Name) (k : ℕ) (trees : Trees) → preorder trees ≡ map (λ (p : Piece). p.node) (pieces_below name k trees)
nodes_below name k none = refl
nodes_below name k (grow node below beside) =
    let rest : preorder below ++ preorder beside ≡ map (λ (p : Piece). p.node) (pieces_below (child_name name k) 0 below ++ pieces_below name (k + 1) beside) =
    rw (nodes_below (child_name name k) 0 below, nodes_below name (k + 1) beside)
    (sym (map-append (λ (p : Piece). p.node) (pieces_below (child_name name k) 0 below) (pieces_below name (k + 1) beside))) in
    ap (λ (ns : List Node). node ∷ ns) rest

pub tree_nodes : (tree : Trees) → AreTrees 1 tree → preorder tree ≡ map (λ (p : Piece). p.node) (pieces_of tree)
tree_nodes none are = absurd are
tree_nodes (grow node below none) are = ap (λ (ns : List Node). node ∷ ns) (simp append-nil (nodes_below root_name 0 below))
tree_nodes (grow node below (grow other under beside)) are = absurd are.1

levels_below : (name : Name) (k most : ℕ) (trees : Trees) → length name ≤ most
    → ((p : Piece) → Has (pieces_below name k trees) p → length p.name ≤ most) → length name + levels trees ≤ most
levels_below name k most none short deep = omega arith
levels_below name k most (grow node below beside) short deep =
    let own = deep (record { name = child_name name k; node = node }) (inl refl) in
    let under = levels_below (child_name name k) 0 most below own (λ p h. deep p
    (inr (has_left (pieces_below (child_name name k) 0 below) (pieces_below name (k + 1) beside) p h))) in
    let after = levels_below name (k + 1) most beside short
    (λ p h. deep p (inr (has_right (pieces_below (child_name name k) 0 below) (pieces_below name (k + 1) beside) p h))) in
    omega (arith, child-length name k)

pub tree_levels : (tree : Trees) (most : ℕ) → AreTrees 1 tree → ((p : Piece) → Has (pieces_of tree) p → length p.name ≤ most) → levels tree ≤ most + 1
tree_levels none most are deep = absurd are
tree_levels (grow node below none) most are deep =
    let under = levels_below root_name 0 most below (omega arith) (λ p h. deep p (inr h)) in
    omega arith
tree_levels (grow node below (grow other under beside)) most are deep = absurd are.1

pub root_there : (tree : Trees) → AreTrees 1 tree → HasPiece (pieces_of tree) root_name
root_there none are = absurd are
root_there (grow node below beside) are = record { piece = record { name = root_name; node = node }; there = inl refl; named = refl }
