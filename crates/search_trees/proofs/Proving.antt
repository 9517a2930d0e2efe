-- The tree of pieces that are right for the choices that stand at their names proves its bound.
use Rattle.std.proofs.Common.{◌≡◌, ℕ, zero, suc, ◌+◌, ◌<◌, ◌≤◌, List, [], ◌∷◌, inl, inr, refl, sym, ap, subst, arith, map, Contains}
use Rattle.std.specs.List.{range_with_len}
use Rattle.std.proofs.lemmas.List.Elements.{All-contains}
use Rattle.std.proofs.lemmas.List.Sorted.{IsPermutation-sym, Contains-permutation}
use Rattle.ttp_model.specs.Instance.{Instance}
use Rattle.tt_choice.specs.Choice.{Choice}
use Rattle.tt_choice.specs.Branches.{root_choice, child}
use Rattle.certificate.specs.declared.node.Node.{Node}
use Rattle.certificate.specs.declared.node.Node.TheVariants.{Branch, Leaf}
use Rattle.certificate.specs.Trees.{Trees, none, grow, children, AreTrees}
use Rattle.certificate.specs.Cert.{Cert}
use Rattle.tree_check.specs.Proofs.{choices_below, Suits, AreProofs, Proves}
use Rattle.search_trees.specs.declared.piece.Piece.{Piece}
use Rattle.search_trees.specs.Name.{Name, child_name, root_name}
use Rattle.search_trees.specs.Pieces.{IsRight, choice_below, StandsAt, at_root, at_child, AreRight}
use Rattle.search_trees.specs.Trees.{pieces_below, pieces_of}
use Rattle.search_trees.specs.Gathering.{HasGoal, HaveGoals, IsGathered}
use Rattle.search_trees.proofs.Has.{Has, has_left, has_right, contains_from_has}

-- ---- a node that is right suits its choice

suits : (i : Instance) (low : ℕ) (c : Choice) (node : Node) → IsRight i c node → HasGoal low node → Suits i low c node
suits i low c (Branch branch) right goal = right
suits i low c (Leaf leaf) right goal = record { goal = goal; closes = right }

-- the choices below it are those of its children, in order
below_is : (i : Instance) (c : Choice) (node : Node) → IsRight i c node
    → choices_below i c node ≡ map (choice_below i c node) (range_with_len 0 (children node))
below_is i c (Branch branch) right = ap (λ (n : ℕ). map (child i c branch.kind) (range_with_len 0 n)) (sym right.just)
below_is i c (Leaf leaf) right = refl

-- ---- along the tree

proofs_below : (i : Instance) (low : ℕ) (pieces : List Piece) (name : Name) (f : ℕ → Choice) (k count : ℕ) (trees : Trees)
    → AreTrees count trees → AreRight i pieces → HaveGoals low pieces
    → ((p : Piece) → Has (pieces_below name k trees) p → Contains pieces p)
    → ((j : ℕ) → k ≤ j → j < k + count → StandsAt i pieces (child_name name j) (f j))
    → AreProofs i low (map f (range_with_len k count)) trees
proofs_below i low pieces name f k zero none are right goals there stands = tt
proofs_below i low pieces name f k zero (grow node below beside) are right goals there stands = absurd are
proofs_below i low pieces name f k (suc count) none are right goals there stands = absurd are
proofs_below i low pieces name f k (suc count) (grow node below beside) are right goals there stands =
    let p : Piece = record { name = child_name name k; node = node } in
    let here : Contains pieces p = there p (inl refl) in
    let at : StandsAt i pieces (child_name name k) (f k) = stands k (omega arith) (omega arith) in
    let own : IsRight i (f k) node = right p (f k) here at in
    let goal : HasGoal low node = All-contains (λ (q : Piece). HasGoal low q.node) pieces p goals here in
    let under = pieces_below (child_name name k) 0 below in
    let after = pieces_below name (k + 1) beside in (
      suits i low (f k) node own goal,
      (
        subst (λ (cs : List Choice). AreProofs i low cs below) (sym (below_is i (f k) node own))
            (proofs_below i low pieces (child_name name k) (choice_below i (f k) node) 0 (children node) below are.0 right goals
            (λ q h. there q (inr (has_left under after q h)))
            (λ j from lt. at_child p (f k) j here at (omega arith))),
        proofs_below i low pieces name f (k + 1) count beside are.1 right goals
            (λ q h. there q (inr (has_right under after q h)))
            (λ j from lt. stands j (omega arith) (omega arith)),
      ),
    )

tree_proofs : (i : Instance) (low : ℕ) (pieces : List Piece) (tree : Trees) → AreTrees 1 tree → AreRight i pieces → HaveGoals low pieces
    → ((p : Piece) → Has (pieces_of tree) p → Contains pieces p)
    → AreProofs i low (root_choice i ∷ []) tree
tree_proofs i low pieces none are right goals there = absurd are
tree_proofs i low pieces (grow node below (grow other under beside)) are right goals there = absurd are.1
tree_proofs i low pieces (grow node below none) are right goals there =
    let p : Piece = record { name = root_name; node = node } in
    let here : Contains pieces p = there p (inl refl) in
    let own : IsRight i (root_choice i) node = right p (root_choice i) here at_root in
    let goal : HasGoal low node = All-contains (λ (q : Piece). HasGoal low q.node) pieces p goals here in (
      suits i low (root_choice i) node own goal,
      (
        subst (λ (cs : List Choice). AreProofs i low cs below) (sym (below_is i (root_choice i) node own))
            (proofs_below i low pieces root_name (choice_below i (root_choice i) node) 0 (children node) below are.0 right goals
            (λ q h. there q (inr h))
            (λ j from lt. at_child p (root_choice i) j here at_root (omega arith))),
        tt,
      ),
    )

pub gathered_proves : (i : Instance) (pieces : List Piece) (low : ℕ) (cert : Cert) → AreRight i pieces → low ≤ i.cluster.horizon + 1
    → IsGathered low pieces cert → Proves i cert
gathered_proves i pieces low cert right short is =
    let back = IsPermutation-sym pieces (pieces_of cert.tree) is.tree.same in
    let there : (p : Piece) → Has (pieces_of cert.tree) p → Contains pieces p = λ p h. Contains-permutation (pieces_of cert.tree) pieces p back
    (contains_from_has (pieces_of cert.tree) p h) in
    record {
      low = omega (arith, is.bound);
      tree =
          subst (λ (b : ℕ). AreProofs i b (root_choice i ∷ []) cert.tree) (sym is.bound) (tree_proofs i low pieces cert.tree is.tree.one right is.goals there);
    }
