-- Ways through the joined tree of parts, along a first tree.
use Rattle.std.proofs.Common.{◌≡◌, ℕ, ◌+◌, ◌<◌, ◌≤◌, List, [], ◌∷◌, Option, None, Some, length, arith, inl, inr, refl, sym, ap, subst, ◌∙◌}
use Rattle.ttp_model.specs.declared.step.Leaf.{Leaf}
use Rattle.ttp_model.specs.Instance.{Instance}
use Rattle.tt_choice.specs.Choice.{Choice}
use Rattle.tt_choice.specs.Branches.{root_choice, child_choices}
use Rattle.certificate.specs.declared.branch.Branch.{Branch}
use Rattle.certificate.specs.declared.node.Node.{Node}
use Rattle.certificate.specs.declared.node.Node.TheVariants as node
use Rattle.certificate.specs.Trees.{Trees, none, grow, preorder}
use Rattle.certificate.specs.Cert.{Cert}
use Rattle.tree_check.specs.Proofs.{AreProofs}
use Rattle.side_by_side.specs.Joined.{leaf_on_top, branch_on_top, below_top, beside_top, own_trees, IsBest, IsJoined, IsJoinedTree}
use Rattle.side_by_side.specs.Bounds.{IsRight, IsGreatestBound, lower, lowest}
use Rattle.side_by_side.specs.Parts.{Turn, Below, Beside, trees_at, HasLeaf, AreParts, SomeReaches, reached}
use Rattle.side_by_side.proofs.LowBounds.{lowest_le, lowest-append, proofs_low}
use Rattle.side_by_side.proofs.Proving.{joined_tree_right}
use Rattle.side_by_side.proofs.Tops.{led_under, proofs_beside}
use Rattle.side_by_side.proofs.Parts.{place_reaches}

-- nothing stands where there are no trees
pub no_leaf : (way : List Turn) → HasLeaf (trees_at way none) → ⊥
no_leaf [] has =
    let bad : None ≡ Some has.0 = has.1 in
    cc
no_leaf (Below ∷ way) has = no_leaf way has
no_leaf (Beside ∷ way) has = no_leaf way has

pub not_both : (trees : Trees) (leaf : Leaf) (branch : Branch) → leaf_on_top trees ≡ Some leaf → branch_on_top trees ≡ Some branch → ⊥
not_both none leaf branch is has = cc
not_both (grow (node.Leaf own) below beside) leaf branch is has = cc
not_both (grow (node.Branch own) below beside) leaf branch is has = cc

-- trees that are the same are the same parts
parts_same : (count : ℕ) (first : Trees) (at other : ℕ → Trees) → ((k : ℕ) → k < count → other k ≡ at k) → AreParts count first at
    → AreParts count first other
parts_same count first at other same parts = record {
  branches = λ way branch is k inside. ap (λ (t : Trees). branch_on_top (trees_at way t)) (same k inside) ∙ parts.branches way branch is k inside;
  leaves = λ way has.
      let one = parts.leaves way has in
      (one.0, λ k branch inside is. one.1 k branch inside (ap (λ (t : Trees). branch_on_top (trees_at way t)) (sym (same k inside)) ∙ is));
}

module _ (i : Instance) (certs : List Cert) where
  abbrev AllRight : List Choice → (ℕ → Trees) → Type 0
  AllRight cs at = (k : ℕ) → k < length certs → AreProofs i 0 cs (at k)

  -- below a branch that all have the joined tree is that of what is below
  record IsDown (c : Choice) (branch : Branch) (at : ℕ → Trees) (tree : Trees) : Type 0 where
    under : ℕ → Trees
    same : (k : ℕ) → k < length certs → under k ≡ below_top (at k)
    right : AllRight (child_choices i c branch.kind) under
    top : branch_on_top tree ≡ Some branch
    joined : IsJoined i certs (child_choices i c branch.kind) None under (below_top tree)

  module _ (c : Choice) (cs : List Choice) (at : ℕ → Trees) (branch : Branch) (all : (k : ℕ) → k < length certs → branch_on_top (at k) ≡ Some branch)
      (right : AllRight (c ∷ cs) at) where
    no_best : (best : Option Leaf) → IsBest (length certs) None at best → best ≡ None
    no_best best is = elim is [
      | inl keeps ↦ keeps.same
      | inr takes ↦
          let k = takes.number in
          absurd (not_both (at k) takes.leaf branch takes.own (all k takes.greatest.inside))
    ]

    one_branch : (own : Branch) (k : ℕ) → k < length certs → branch_on_top (at k) ≡ Some own → own ≡ branch
    one_branch own k inside is =
        let both : Some own ≡ Some branch = sym is ∙ all k inside in
        cc

    -- where none has a leaf, none goes down, and each has its own trees there
    is_down : (tree : Trees) → IsJoined i certs (c ∷ cs) None at tree → IsDown c branch at tree
    is_down none joined = absurd joined
    is_down (grow (node.Leaf here) below beside) joined =
        let bad : Some joined.0.leaf ≡ None = no_best (Some joined.0.leaf) joined.0.best in
        cc
    is_down (grow (node.Branch own) below beside) joined =
        let down = joined.1.0 in
        let one : own ≡ branch = one_branch own joined.0.number joined.0.greatest.inside joined.0.own in
        let has : (k : ℕ) → k < length certs → branch_on_top (at k) ≡ Some own = λ k inside. all k inside ∙ ap Some (sym one) in
        let lower = down.2.1.0 in
        record {
          under = down.1;
          same = λ k inside. elim (lower k inside) [ inl same ↦ same.1 | inr other ↦ absurd (other.0 (has k inside)) ];
          right = λ k inside.
              subst (λ (b : Branch). AreProofs i 0 (child_choices i c b.kind) (down.1 k)) one
              (led_under i 0 c cs own (at k) (down.1 k) (has k inside) (inr (right k inside)) (lower k inside));
          top = ap Some one;
          joined =
              subst (λ (b : Branch). IsJoined i certs (child_choices i c b.kind) None down.1 below) one
              (subst (λ (l : Option Leaf). IsJoined i certs (child_choices i c own.kind) l down.1 below) (no_best down.0 down.2.0) down.2.1.1);
        }

  joined_beside : (c : Choice) (cs : List Choice) (above : Option Leaf) (at : ℕ → Trees) (tree : Trees) → IsJoined i certs (c ∷ cs) above at tree
      → IsJoined i certs cs above (λ k. beside_top (at k)) (beside_top tree)
  joined_beside c cs above at none joined = absurd joined
  joined_beside c cs above at (grow (node.Leaf here) below beside) joined = joined.1.1
  joined_beside c cs above at (grow (node.Branch own) below beside) joined = joined.1.1

parts_below : (count : ℕ) (node : Node) (below beside : Trees) (at : ℕ → Trees) → AreParts count (grow node below beside) at
    → AreParts count below (λ k. below_top (at k))
parts_below count node below beside at parts = record {
  branches = λ way. parts.branches (Below ∷ way);
  leaves = λ way. parts.leaves (Below ∷ way);
}

parts_beside : (count : ℕ) (node : Node) (below beside : Trees) (at : ℕ → Trees) → AreParts count (grow node below beside) at
    → AreParts count beside (λ k. beside_top (at k))
parts_beside count node below beside at parts = record {
  branches = λ way. parts.branches (Beside ∷ way);
  leaves = λ way. parts.leaves (Beside ∷ way);
}

module _ (i : Instance) (certs : List Cert) (low most : ℕ) where
  -- At a leaf of the first tree, along its way, the joined tree reaches what one of the parts does.
  along : (way : List Turn) (cs : List Choice) (first : Trees) (at : ℕ → Trees) (tree : Trees) → AreProofs i 0 cs first
      → AreParts (length certs) first at → AllRight i certs cs at → IsJoined i certs cs None at tree → HasLeaf (trees_at way first)
      → (k : ℕ) → k < length certs → low ≤ reached most (trees_at way (at k)) → (to : ℕ) → low ≤ to → low ≤ reached to (trees_at way tree)
  along way cs none at tree are parts right joined has k inside le to enough = absurd (no_leaf way has)
  along way [] (grow node below beside) at tree are parts right joined has k inside le to enough = absurd are
  along [] (c ∷ cs) (grow node below beside) at tree are parts right joined has k inside le to enough =
      place_reaches i certs low most c cs None at right (parts.leaves [] has) k inside le to enough tree joined
  along (Below ∷ way) (c ∷ cs) (grow (node.Leaf leaf) none beside) at tree are parts right joined has k inside le to enough =
      absurd (no_leaf way has)
  along (Below ∷ way) (c ∷ cs) (grow (node.Leaf leaf) (grow node below others) beside) at tree are parts right joined has k inside le to enough =
      absurd are.1.0
  along (Below ∷ way) (c ∷ cs) (grow (node.Branch branch) below beside) at tree are parts right joined has k inside le to enough =
      let down = is_down i certs c cs at branch (parts.branches [] branch refl) right tree joined in
      let same = sym (down.same k inside) in
      along way (child_choices i c branch.kind) below down.under (below_top tree) are.1.0
      (parts_same (length certs) below (λ j. below_top (at j)) down.under down.same (parts_below (length certs) (node.Branch branch) below beside at parts))
      down.right down.joined has k inside (subst (λ (t : Trees). low ≤ reached most (trees_at way t)) same le) to enough
  along (Beside ∷ way) (c ∷ cs) (grow node below beside) at tree are parts right joined has k inside le to enough =
      along way cs beside (λ j. beside_top (at j)) (beside_top tree) are.1.1 (parts_beside (length certs) node below beside at parts)
      (λ j within. proofs_beside i 0 c cs (at j) (right j within)) (joined_beside i certs c cs None at tree joined) has k inside le to enough

  with_beside : (to : ℕ) (tree : Trees) → low ≤ reached to tree → ((next : ℕ) → low ≤ next → low ≤ lowest next (preorder (beside_top tree)))
      → low ≤ lowest to (preorder tree)
  with_beside to none le others = le
  with_beside to (grow node below beside) le others =
      let here = lowest (lower to node) (preorder below) in
      omega (arith, others here le, lowest-append (lower to node) (preorder below) (preorder beside))

  reached_below : (to : ℕ) (tree : Trees) (branch : Branch) → branch_on_top tree ≡ Some branch → low ≤ lowest to (preorder (below_top tree))
      → low ≤ reached to tree
  reached_below to none branch is le = le
  reached_below to (grow (node.Leaf leaf) below beside) branch is le = cc
  reached_below to (grow (node.Branch own) below beside) branch is le = le

  some_below : (node : Node) (below beside : Trees) (at under : ℕ → Trees) → ((k : ℕ) → k < length certs → under k ≡ below_top (at k))
      → SomeReaches low most (length certs) (grow node below beside) at → SomeReaches low most (length certs) below under
  some_below node below beside at under same some way has =
      let one = some (Below ∷ way) has in
      (one.0, one.1, subst (λ (t : Trees). low ≤ reached most (trees_at way t)) (sym (same one.0 one.1)) one.2)

  -- Where some part reaches a bound at each leaf of the first tree, all leaves of the joined one reach it.
  all_reach : (cs : List Choice) (first : Trees) (at : ℕ → Trees) (tree : Trees) → AreProofs i 0 cs first → AreParts (length certs) first at
      → AllRight i certs cs at → SomeReaches low most (length certs) first at → IsJoined i certs cs None at tree
      → (to : ℕ) → low ≤ to → low ≤ lowest to (preorder tree)
  all_reach [] none at none are parts right some joined to enough = enough
  all_reach [] none at (grow node below beside) are parts right some joined to enough = absurd joined
  all_reach [] (grow node below beside) at tree are parts right some joined to enough = absurd are
  all_reach (c ∷ cs) none at tree are parts right some joined to enough = absurd are
  all_reach (c ∷ cs) (grow (node.Leaf leaf) below beside) at tree are parts right some joined to enough =
      let one = some [] (leaf, refl) in
      with_beside to tree (place_reaches i certs low most c cs None at right (parts.leaves [] (leaf, refl)) one.0 one.1 one.2 to enough tree joined)
      (all_reach cs beside (λ j. beside_top (at j)) (beside_top tree) are.1.1 (parts_beside (length certs) (node.Leaf leaf) below beside at parts)
      (λ j within. proofs_beside i 0 c cs (at j) (right j within)) (λ way. some (Beside ∷ way)) (joined_beside i certs c cs None at tree joined))
  all_reach (c ∷ cs) (grow (node.Branch branch) below beside) at tree are parts right some joined to enough =
      let down = is_down i certs c cs at branch (parts.branches [] branch refl) right tree joined in
      let under = all_reach (child_choices i c branch.kind) below down.under (below_top tree) are.1.0
      (parts_same (length certs) below (λ j. below_top (at j)) down.under down.same (parts_below (length certs) (node.Branch branch) below beside at parts))
      down.right (some_below (node.Branch branch) below beside at down.under down.same some) down.joined in
      with_beside to tree (reached_below to tree branch down.top (under to enough))
      (all_reach cs beside (λ j. beside_top (at j)) (beside_top tree) are.1.1 (parts_beside (length certs) (node.Branch branch) below beside at parts)
      (λ j within. proofs_beside i 0 c cs (at j) (right j within)) (λ way. some (Beside ∷ way)) (joined_beside i certs c cs None at tree joined))

reached_le : (most : ℕ) (trees : Trees) → reached most trees ≤ most
reached_le most none = omega arith
reached_le most (grow node below beside) = lowest_le most (node ∷ preorder below)

pub parts_count : (i : Instance) (certs : List Cert) (first tree : Trees) (way : List Turn) (k most : ℕ) → IsRight i first
    → ((j : ℕ) → j < length certs → IsRight i (own_trees certs j)) → AreParts (length certs) first (own_trees certs)
    → IsJoinedTree i certs tree → HasLeaf (trees_at way first) → k < length certs
    → reached most (trees_at way (own_trees certs k)) ≤ reached most (trees_at way tree)
parts_count i certs first tree way k most are right parts joined has inside =
    along i certs (reached most (trees_at way (own_trees certs k))) most way (root_choice i ∷ []) first (own_trees certs) tree are parts right joined has
    k inside (omega arith) most (reached_le most (trees_at way (own_trees certs k)))

pub parts_bound : (i : Instance) (certs : List Cert) (first tree : Trees) (least low : ℕ) → IsRight i first
    → ((j : ℕ) → j < length certs → IsRight i (own_trees certs j)) → AreParts (length certs) first (own_trees certs)
    → IsJoinedTree i certs tree → IsGreatestBound i tree low → least ≤ i.cluster.horizon + 1
    → SomeReaches least (i.cluster.horizon + 1) (length certs) first (own_trees certs) → least ≤ low
parts_bound i certs first tree least low are right parts joined greatest within some =
    let most = i.cluster.horizon + 1 in
    let cs = root_choice i ∷ [] in
    let all = all_reach i certs least most cs first (own_trees certs) tree are parts right some joined most within in
    greatest.greatest least within (proofs_low i least most cs tree (joined_tree_right i certs tree right joined) all)
