-- Pieces that have the names of a tree are one tree, whose nodes in preorder are theirs in the order of their names.
use Rattle.std.proofs.Common.{◌≡◌, ℕ, ◌≤◌, List, refl, sym, ap, subst, ◌∙◌, map, length}
use Rattle.std.specs.List.Sorted.{IsPermutation}
use Rattle.std.proofs.lemmas.List.Elements.{All-contains}
use Rattle.std.proofs.lemmas.List.Sorted.{IsPermutation-sym, IsPermutation-trans, All-permutation, Contains-permutation}
use Rattle.certificate.specs.declared.version.Version.{Version}
use Rattle.certificate.specs.declared.limits.TheConstants.{MOST_BRANCHES_ABOVE}
use Rattle.certificate.specs.Trees.{Trees, IsTree, preorder, trees_of}
use Rattle.certificate.specs.Versions.{Allows, version_of_nodes}
use Rattle.certificate.specs.Cert.{Cert}
use Rattle.certificate.proofs.TreeLists.{trees_of-preorder, preorder-trees_of}
use Rattle.certificate.proofs.Versions.{version_allows}
use Rattle.search_trees.specs.declared.piece.Piece.{Piece}
use Rattle.search_trees.specs.Trees.{IsTreeOf, pieces_of}
use Rattle.search_trees.specs.Gathering.{HasGoal, AreShallow, HasTreeNames, HaveGoals, HasWantedNames, IsOwn, IsGathered}
use Rattle.search_trees.specs.Order.{Rises}
use Rattle.search_trees.proofs.Has.{Has, contains_from_has, has_from_contains}
use Rattle.search_trees.proofs.Rising.{pieces_rise, same_list}
use Rattle.search_trees.proofs.Closed.{tree_children, tree_parents}
use Rattle.search_trees.proofs.Existence.{IsClosed, IsListOf, tree_exists, tree_nodes, tree_levels, root_there}
use Rattle.search_trees.proofs.Counting.{closed_by_names, names_by_closed, once_rising, tree_names_move}
use Rattle.search_trees.proofs.Sorting.{sorted_exists}

-- ---- what `gather` answers

pub record IsAnswered (low : ℕ) (pieces sorted : List Piece) : Type 0 where
  pub is_tree : IsTree (trees_of (map (λ (p : Piece). p.node) sorted))
  pub answer : IsGathered low pieces (record {
    version = version_of_nodes (map (λ (p : Piece). p.node) sorted);
    low = low;
    tree = trees_of (map (λ (p : Piece). p.node) sorted);
  })

nodes_are : (sorted : List Piece) (found : IsListOf sorted) → trees_of (map (λ (p : Piece). p.node) sorted) ≡ found.tree
nodes_are sorted found =
    ap trees_of (sym (tree_nodes found.tree found.one ∙ ap (λ (ps : List Piece). map (λ (p : Piece). p.node) ps) found.is))
    ∙ trees_of-preorder 1 found.tree found.one

pub gathered : (low : ℕ) (pieces sorted : List Piece) → AreShallow pieces → IsPermutation pieces sorted → Rises sorted → HasWantedNames sorted
    → IsOwn sorted → HaveGoals low sorted
    → IsAnswered low pieces sorted
gathered low pieces sorted shallow same up complete own goals =
    let found = tree_exists sorted up (closed_by_names sorted (record { once = λ name. once_rising sorted name up; complete = complete; own = own })) in
    let short : AreShallow sorted = All-permutation (λ (p : Piece). length p.name ≤ MOST_BRANCHES_ABOVE) pieces sorted same shallow in
    let low_tree = tree_levels found.tree MOST_BRANCHES_ABOVE found.one
    (λ p there. All-contains (λ (q : Piece). length q.name ≤ MOST_BRANCHES_ABOVE) sorted p short
    (contains_from_has sorted p (subst (λ (ps : List Piece). Has ps p) found.is there))) in
    let whole : IsTreeOf pieces found.tree = record { one = found.one; same = subst (λ (ps : List Piece). IsPermutation pieces ps) (sym found.is) same } in
    record {
      is_tree = subst IsTree (sym (nodes_are sorted found)) (record { one = found.one; shallow = low_tree });
      answer = record {
        version = ap version_of_nodes (sym (preorder-trees_of (map (λ (p : Piece). p.node) sorted)));
        bound = refl;
        tree = subst (IsTreeOf pieces) (sym (nodes_are sorted found)) whole;
        goals = All-permutation (λ (p : Piece). HasGoal low p.node) sorted pieces (IsPermutation-sym pieces sorted same) goals;
      };
    }

-- ---- the laws

pub gathered_allows : (low : ℕ) (pieces : List Piece) (cert : Cert) → IsGathered low pieces cert → Allows cert.version cert.tree
gathered_allows low pieces cert is = subst (λ (version : Version). Allows version cert.tree) (sym is.version) (version_allows cert.tree)

pub names_make_a_tree : (pieces : List Piece) → HasTreeNames pieces → (tree : Trees) × IsTreeOf pieces tree
names_make_a_tree pieces names =
    let sorted = sorted_exists pieces names.once in
    let found = tree_exists sorted.list sorted.up (closed_by_names sorted.list (tree_names_move pieces sorted.list sorted.same names)) in
    (found.tree, record { one = found.one; same = subst (λ (ps : List Piece). IsPermutation pieces ps) (sym found.is) sorted.same })

pub tree_has_names : (pieces : List Piece) (tree : Trees) → IsTreeOf pieces tree → HasTreeNames pieces
tree_has_names pieces tree is =
    let closed : IsClosed (pieces_of tree) = record {
      root = root_there tree is.one;
      below = λ p j there lt. tree_children tree p j is.one there lt;
      own = λ p there. tree_parents tree p is.one there;
    } in
    tree_names_move (pieces_of tree) pieces (IsPermutation-sym pieces (pieces_of tree) is.same) (names_by_closed (pieces_of tree) (pieces_rise tree) closed)

same_pieces : (xs ys : List Piece) → IsPermutation xs ys → (p : Piece) → Has xs p → Has ys p
same_pieces xs ys moved p there = has_from_contains ys p (Contains-permutation xs ys p moved (contains_from_has xs p there))

pub tree_is_one : (pieces : List Piece) (a b : Trees) → IsTreeOf pieces a → IsTreeOf pieces b → a ≡ b
tree_is_one pieces a b is_a is_b =
    let across = IsPermutation-trans (pieces_of a) pieces (pieces_of b) (IsPermutation-sym pieces (pieces_of a) is_a.same) is_b.same in
    let back = IsPermutation-sym (pieces_of a) (pieces_of b) across in
    let lists : pieces_of a ≡ pieces_of b = same_list (pieces_of a) (pieces_of b) (pieces_rise a) (pieces_rise b)
    (same_pieces (pieces_of a) (pieces_of b) across) (same_pieces (pieces_of b) (pieces_of a) back) in
    let nodes : preorder a ≡ preorder b = tree_nodes a is_a.one ∙ ap (λ (ps : List Piece). map (λ (p : Piece). p.node) ps) lists
    ∙ sym (tree_nodes b is_b.one) in
    sym (trees_of-preorder 1 a is_a.one) ∙ ap trees_of nodes ∙ trees_of-preorder 1 b is_b.one
