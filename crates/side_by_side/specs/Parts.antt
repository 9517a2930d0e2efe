-- When trees are parts of the work on a first one, and which goals each reached at a leaf of it. Own profile.
use Rattle.std.specs.Prelude.{◌≡◌, ℕ, ◌<◌, ◌≤◌, List, [], ◌∷◌, Some}
use Rattle.ttp_model.specs.declared.step.Leaf.{Leaf}
use Rattle.certificate.specs.declared.branch.Branch.{Branch}
use Rattle.certificate.specs.Trees.{Trees, none, grow, preorder}
use Rattle.side_by_side.specs.Joined.{leaf_on_top, branch_on_top, below_top, beside_top}
use Rattle.side_by_side.specs.Bounds.{lowest}

-- a way through trees goes, turn by turn, to those below the first one's top, or to those beside the first one
pub data Turn : Type 0 where
  Below : Turn
  Beside : Turn

-- the trees that it leads to
abbrev pub trees_at : List Turn → Trees → Trees
trees_at [] trees = trees
trees_at (Below ∷ way) trees = trees_at way (below_top trees)
trees_at (Beside ∷ way) trees = trees_at way (beside_top trees)

-- a leaf stands on top
abbrev pub HasLeaf : Trees → Type 0
HasLeaf trees = (leaf : Leaf) × (leaf_on_top trees ≡ Some leaf)

-- of so many trees none but one has a branch on top
abbrev pub OneBranches : ℕ → (ℕ → Trees) → Type 0
OneBranches count at = (one : ℕ) × ((k : ℕ) (branch : Branch) → k < count → branch_on_top (at k) ≡ Some branch → k ≡ one)

-- So many trees are parts of the work on a first one: all have its branches, and where it has a leaf none but one has a branch.
pub record AreParts (count : ℕ) (first : Trees) (at : ℕ → Trees) : Type 0 where
  pub branches : (way : List Turn) (branch : Branch) → branch_on_top (trees_at way first) ≡ Some branch
      → (k : ℕ) → k < count → branch_on_top (trees_at way (at k)) ≡ Some branch
  pub leaves : (way : List Turn) → HasLeaf (trees_at way first) → OneBranches count (λ k. trees_at way (at k))

-- the least of a bound and the goals of the first of trees
abbrev pub reached : ℕ → Trees → ℕ
reached most none = most
reached most (grow node below beside) = lowest most (node ∷ preorder below)

-- at each leaf of a first one some of so many trees reaches this
abbrev pub SomeReaches : (least most count : ℕ) (first : Trees) → (ℕ → Trees) → Type 0
SomeReaches least most count first at =
    (way : List Turn) → HasLeaf (trees_at way first) → (k : ℕ) × (k < count) × (least ≤ reached most (trees_at way (at k)))
