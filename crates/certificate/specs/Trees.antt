-- Trees of branches and leaves, and their nodes in preorder. Own profile.
use Rattle.std.specs.Prelude.{ℕ, zero, suc, ◌+◌, ◌≤◌, max, List, [], ◌∷◌, ◌++◌}
use Rattle.certificate.specs.Limits.{most_branches_above}
use Rattle.certificate.specs.declared.node.Node.{Node}
use Rattle.certificate.specs.declared.node.Node.TheVariants.{Branch, Leaf}

-- Trees side by side: the first one's top node, the trees below that node, and the trees beside it.
pub data Trees : Type 0 where
  none : Trees
  grow : (node : Node) (below beside : Trees) → Trees

-- how many trees stand below a node
abbrev pub children : Node → ℕ
children (Branch branch) = branch.children
children (Leaf leaf) = 0

-- the nodes, each in front of those below it
abbrev pub preorder : Trees → List Node
preorder none = []
preorder (grow node below beside) = node ∷ (preorder below ++ preorder beside)

-- so many trees, in which each node has just its children
abbrev pub AreTrees : ℕ → Trees → Type 0
AreTrees zero none = Unit {0}
AreTrees zero (grow node below beside) = ⊥
AreTrees (suc k) none = ⊥
AreTrees (suc k) (grow node below beside) = AreTrees (children node) below × AreTrees k beside

-- the most nodes that stand one below another
abbrev pub levels : Trees → ℕ
levels none = 0
levels (grow node below beside) = max (1 + levels below) (levels beside)

-- one tree, in which each node has just its children, and few enough branches above it
pub record IsTree (tree : Trees) : Type 0 where
  pub one : AreTrees 1 tree
  pub shallow : levels tree ≤ most_branches_above + 1

-- the first so many trees, as far as there are any
unfoldable pub first_trees : ℕ → Trees → Trees
first_trees zero trees = none
first_trees (suc k) none = none
first_trees (suc k) (grow node below beside) = grow node below (first_trees k beside)

-- the trees behind those
unfoldable pub trees_after : ℕ → Trees → Trees
trees_after zero trees = trees
trees_after (suc k) none = none
trees_after (suc k) (grow node below beside) = trees_after k beside

-- The trees that have these nodes in preorder: below a node the next of them, as many as it has
-- children, and the others beside it.
unfoldable pub trees_of : List Node → Trees
trees_of [] = none
trees_of (node ∷ nodes) =
    grow node (first_trees (children node) (trees_of nodes)) (trees_after (children node) (trees_of nodes))
