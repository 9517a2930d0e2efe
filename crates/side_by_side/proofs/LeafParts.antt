-- Trees that are parts of the work on one of them, or on a leaf.
use Rattle.std.proofs.Common.{◌≡◌, ℕ, List, [], ◌∷◌, None, Some, Bool, inl, inr, subst, ◌==◌, if◌then◌else◌}
use Rattle.std.proofs.lemmas.Bool.Decides.{eqb_tells}
use Rattle.ttp_model.specs.declared.step.Leaf.{Leaf}
use Rattle.certificate.specs.declared.branch.Branch.{Branch}
use Rattle.certificate.specs.declared.node.Node.TheVariants as node
use Rattle.certificate.specs.Trees.{Trees, none, grow}
use Rattle.side_by_side.specs.Joined.{branch_on_top}
use Rattle.side_by_side.specs.Parts.{Turn, Below, Beside, trees_at, HasLeaf, AreParts, OneBranches}
use Rattle.side_by_side.proofs.Ways.{no_leaf, not_both}

pub same_parts : (count : ℕ) (tree : Trees) → AreParts count tree (λ k. tree)
same_parts count tree = record {
  branches = λ way branch is k inside. is;
  leaves = λ way has. (0, λ k branch inside is. absurd (not_both (trees_at way tree) has.0 branch has.1 is));
}

no_branch : (way : List Turn) (branch : Branch) → branch_on_top (trees_at way none) ≡ Some branch → ⊥
no_branch [] branch is = cc
no_branch (Below ∷ way) branch is = no_branch way branch is
no_branch (Beside ∷ way) branch is = no_branch way branch is

-- a tree that is a leaf has no other
abbrev alone : Leaf → Trees
alone leaf = grow (node.Leaf leaf) none none

leaf_alone : (leaf : Leaf) (way : List Turn) (branch : Branch) → branch_on_top (trees_at way (alone leaf)) ≡ Some branch → ⊥
leaf_alone leaf [] branch is = cc
leaf_alone leaf (Below ∷ way) branch is = no_branch way branch is
leaf_alone leaf (Beside ∷ way) branch is = no_branch way branch is

one_beside : (count one : ℕ) (leaf : Leaf) (tree : Trees) (way : List Turn) → HasLeaf (trees_at way (alone leaf))
    → OneBranches count (λ k. trees_at way (if k == one then tree else alone leaf))
one_beside count one leaf tree [] has = (
  one,
  λ k branch inside is. elim (eqb_tells k one) [
    | inl same ↦ same.1
    | inr other ↦
        let bad : None ≡ Some branch = subst (λ (b : Bool). branch_on_top (if b then tree else alone leaf) ≡ Some branch) other.0 is in
        cc
  ],
)
one_beside count one leaf tree (Below ∷ way) has = absurd (no_leaf way has)
one_beside count one leaf tree (Beside ∷ way) has = absurd (no_leaf way has)

pub leaf_parts : (count one : ℕ) (leaf : Leaf) (tree : Trees) → AreParts count (alone leaf) (λ k. if k == one then tree else alone leaf)
leaf_parts count one leaf tree = record {
  branches = λ way branch is. absurd (leaf_alone leaf way branch is);
  leaves = one_beside count one leaf tree;
}
