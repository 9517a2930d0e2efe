-- Which bound a tree proves. Own profile.
use Rattle.std.specs.Prelude.{ℕ, ◌+◌, ◌≤◌, List, [], ◌∷◌, min}
use Rattle.ttp_model.specs.Instance.{Instance}
use Rattle.tt_choice.specs.Branches.{root_choice}
use Rattle.certificate.specs.declared.node.Node.{Node}
use Rattle.certificate.specs.declared.node.Node.TheVariants as node
use Rattle.certificate.specs.Trees.{Trees}
use Rattle.tree_check.specs.Proofs.{AreProofs}

-- each node is right for its choice, whatever its leaves' goals are
abbrev pub IsRight : Instance → Trees → Type 0
IsRight i tree = AreProofs i 0 (root_choice i ∷ []) tree

-- the greatest bound that a tree proves, at most one past the horizon
pub record IsGreatestBound (i : Instance) (tree : Trees) (low : ℕ) : Type 0 where
  pub within : low ≤ i.cluster.horizon + 1
  pub proved : AreProofs i low (root_choice i ∷ []) tree
  pub greatest : (other : ℕ) → other ≤ i.cluster.horizon + 1 → AreProofs i other (root_choice i ∷ []) tree → other ≤ low

-- the lesser of a bound and what a node reaches: any, where it is a branch
abbrev pub lower : ℕ → Node → ℕ
lower low (node.Branch branch) = low
lower low (node.Leaf leaf) = min low leaf.goal

-- the least of a bound and the goals of nodes that are leaves
abbrev pub lowest : ℕ → List Node → ℕ
lowest low [] = low
lowest low (node ∷ nodes) = lowest (lower low node) nodes
