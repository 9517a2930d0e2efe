-- The first node of a tree is its top.
use Rattle.std.proofs.Common.{◌≡◌, ℕ, ◌<◌, ◌∷◌, [], arith, length, slice_index_or, subst, sym}
use Rattle.ttp_model.specs.declared.step.Leaf.{Leaf}
use Rattle.ttp_model.specs.Instance.{Instance}
use Rattle.tt_choice.specs.Choice.{Choice}
use Rattle.tt_choice.specs.Branches.{root_choice}
use Rattle.tt_infer.specs.Leaves.{ClosesLeaf}
use Rattle.certificate.specs.declared.branch.Branch.{Branch}
use Rattle.certificate.specs.declared.node.Node.{Node}
use Rattle.certificate.specs.declared.node.Node.TheVariants as node
use Rattle.certificate.specs.Trees.{AreTrees, Trees, none, grow, preorder}
use Rattle.tree_check.specs.Proofs.{AreProofs, Suits}
use Rattle.certificate_reasons.specs.declared.leaves.LeafReason.{LeafReason}
use Rattle.certificate_reasons.specs.declared.proof.ProofReason.TheVariants as reason
use Rattle.certificate_reasons.specs.declared.sizes.TreeSize.{TreeSize}
use Rattle.certificate_reasons.specs.Leaves.{IsLeafReason}
use Rattle.certificate_reasons.specs.Proofs.{IsTreeProof}
use Rattle.certificate_reasons.specs.Sizes.{IsTreeSize}

pub some_node : (tree : Trees) → AreTrees 1 tree → 0 < length (preorder tree)
some_node none one = absurd one
some_node (grow top below beside) one = omega arith

-- a leaf there closes the choice that the tree is for
pub leaf_closes : (i : Instance) (low : ℕ) (c : Choice) (tree : Trees) (top : Node) (leaf : Leaf) → AreTrees 1 tree → AreProofs i low (c ∷ []) tree
    → top ≡ slice_index_or (preorder tree) 0 top → top ≡ node.Leaf leaf → ClosesLeaf i c leaf
leaf_closes i low c none top leaf one proofs here is = absurd one
leaf_closes i low c (grow first below beside) top leaf one proofs here is =
    let suits : Suits i low c (node.Leaf leaf) = subst (λ (n : Node). Suits i low c n) is (subst (λ (n : Node). Suits i low c n) (sym here) proofs.0) in
    suits.closes

-- the reason of the leaf is that of the tree
pub leaf_proves : (i : Instance) (tree : Trees) (top : Node) (leaf : Leaf) (r : LeafReason) → AreTrees 1 tree → top ≡ slice_index_or (preorder tree) 0 top
    → top ≡ node.Leaf leaf → IsLeafReason i (root_choice i) leaf r → IsTreeProof i tree (reason.Leaf r)
leaf_proves i none top leaf r one here is told = absurd one
leaf_proves i (grow first below beside) top leaf r one here is told =
    subst (λ (n : Node). IsTreeProof i (grow n below beside) (reason.Leaf r)) here
    (subst (λ (n : Node). IsTreeProof i (grow n below beside) (reason.Leaf r)) (sym is) told)

-- and so is the size of one with a branch there
pub branch_proves : (i : Instance) (tree : Trees) (top : Node) (branch : Branch) (x : TreeSize) → AreTrees 1 tree
    → top ≡ slice_index_or (preorder tree) 0 top → top ≡ node.Branch branch → IsTreeSize tree x → IsTreeProof i tree (reason.Tree x)
branch_proves i none top branch x one here is told = absurd one
branch_proves i (grow first below beside) top branch x one here is told =
    let first_told = subst (λ (n : Node). IsTreeSize (grow n below beside) x) (sym here) told in
    let size : IsTreeSize (grow (node.Branch branch) below beside) x = subst (λ (n : Node). IsTreeSize (grow n below beside) x) is first_told in
    subst (λ (n : Node). IsTreeProof i (grow n below beside) (reason.Tree x)) here
    (subst (λ (n : Node). IsTreeProof i (grow n below beside) (reason.Tree x)) (sym is) size)
