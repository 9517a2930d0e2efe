-- When a certificate's tree shows that no plan has a delay below its bound. Own profile.
use Rattle.std.specs.Prelude.{ℕ, ◌+◌, ◌≤◌, List, [], ◌∷◌}
use Rattle.ttp_model.specs.declared.step.Leaf.{Leaf}
use Rattle.ttp_model.specs.Instance.{Instance}
use Rattle.tt_choice.specs.Choice.{Choice}
use Rattle.tt_choice.specs.Branches.{IsBranch, root_choice, child_choices}
use Rattle.tt_infer.specs.Leaves.{ClosesLeaf}
use Rattle.certificate.specs.declared.node.Node.{Node}
use Rattle.certificate.specs.declared.node.Node.TheVariants as node
use Rattle.certificate.specs.Trees.{Trees, none, grow}
use Rattle.certificate.specs.Cert.{Cert}

-- the choices that a node leads to, in order; none below a leaf
abbrev pub choices_below : Instance → Choice → Node → List Choice
choices_below i c (node.Branch branch) = child_choices i c branch.kind
choices_below i c (node.Leaf leaf) = []

-- a leaf's goal isn't below the bound, and its steps leave no plan of the choice with a delay below it
pub record ClosesFrom (i : Instance) (low : ℕ) (c : Choice) (leaf : Leaf) : Type 0 where
  pub goal : low ≤ leaf.goal
  pub closes : ClosesLeaf i c leaf

-- a node is right for the choice that it stands at: an open branch with just its children, or such a
-- leaf
abbrev pub Suits : Instance → ℕ → Choice → Node → Type 0
Suits i low c (node.Branch branch) = IsBranch i c branch.kind branch.children
Suits i low c (node.Leaf leaf) = ClosesFrom i low c leaf

-- trees side by side are proofs for choices side by side: the first one's top node suits the first
-- choice, the trees below it are proofs for the choices that it leads to, and so are the others
abbrev pub AreProofs : Instance → ℕ → List Choice → Trees → Type 0
AreProofs i low [] none = Unit {0}
AreProofs i low [] (grow node below beside) = ⊥
AreProofs i low (c ∷ cs) none = ⊥
AreProofs i low (c ∷ cs) (grow node below beside) =
    Suits i low c node × (AreProofs i low (choices_below i c node) below × AreProofs i low cs beside)

-- a certificate proves its bound: within the horizon and one tick, by a tree for the choice of all plans
pub record Proves (i : Instance) (cert : Cert) : Type 0 where
  pub low : cert.low ≤ i.cluster.horizon + 1
  pub tree : AreProofs i cert.low (root_choice i ∷ []) cert.tree
