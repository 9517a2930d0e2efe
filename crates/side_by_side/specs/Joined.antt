-- The tree that certificates of one instance make together: at each place a branch of one of them, and else the best of their
-- leaves. Own profile.
use Rattle.std.specs.Prelude.{◌≡◌, ◌≢◌, ℕ, ◌<◌, ◌≤◌, ◌⊎◌, List, [], ◌∷◌, length, slice_index_or, Option, None, Some}
use Rattle.ttp_model.specs.declared.step.Leaf.{Leaf}
use Rattle.ttp_model.specs.Instance.{Instance}
use Rattle.tt_choice.specs.Choice.{Choice}
use Rattle.tt_choice.specs.Branches.{root_choice, child_choices}
use Rattle.certificate.specs.declared.branch.Branch.{Branch}
use Rattle.certificate.specs.declared.node.Node.TheVariants as node
use Rattle.certificate.specs.declared.version.Version.TheVariants.{One}
use Rattle.certificate.specs.Trees.{Trees, none, grow}
use Rattle.certificate.specs.Cert.{Cert}
use Rattle.side_by_side.specs.Standing.{StandsAs}

-- the certificate of a number, from 0; one without a tree past the last
abbrev pub no_certificate : Cert
no_certificate = record { version = One; low = 0; tree = none }

abbrev pub certificate_at : List Cert → ℕ → Cert
certificate_at certs k = slice_index_or certs k no_certificate

-- ---- what stands on top of trees

abbrev pub leaf_on_top : Trees → Option Leaf
leaf_on_top none = None
leaf_on_top (grow (node.Branch branch) below beside) = None
leaf_on_top (grow (node.Leaf leaf) below beside) = Some leaf

abbrev pub branch_on_top : Trees → Option Branch
branch_on_top none = None
branch_on_top (grow (node.Branch branch) below beside) = Some branch
branch_on_top (grow (node.Leaf leaf) below beside) = None

abbrev pub below_top : Trees → Trees
below_top none = none
below_top (grow node below beside) = below

abbrev pub beside_top : Trees → Trees
beside_top none = none
beside_top (grow node below beside) = beside

-- the goal of a leaf that stands there
abbrev pub goal_on_top : Trees → Option ℕ
goal_on_top none = None
goal_on_top (grow (node.Branch branch) below beside) = None
goal_on_top (grow (node.Leaf leaf) below beside) = Some leaf.goal

-- the bound that a certificate states, where a branch stands there
abbrev pub low_on_top : ℕ → Trees → Option ℕ
low_on_top low none = None
low_on_top low (grow (node.Branch branch) below beside) = Some low
low_on_top low (grow (node.Leaf leaf) below beside) = None

-- ---- which of several counts

-- of so many, some of which have a number: this one has the greatest, and none before it has the same
pub record IsFirstGreatest (count : ℕ) (has : ℕ → Option ℕ) (k most : ℕ) : Type 0 where
  pub inside : k < count
  pub own : has k ≡ Some most
  pub greatest : (j other : ℕ) → j < count → has j ≡ Some other → other ≤ most
  pub first : (j other : ℕ) → j < k → has j ≡ Some other → other < most

-- the leaf from above reaches this goal
abbrev pub ReachesGoal : Option Leaf → ℕ → Type 0
ReachesGoal above goal = (leaf : Leaf) × (above ≡ Some leaf) × (goal ≤ leaf.goal)

-- The best leaf at a place is the one from above, where there is one and none that stands there has a greater goal;
pub record KeepsAbove (count : ℕ) (above : Option Leaf) (at : ℕ → Trees) (best : Option Leaf) : Type 0 where
  pub same : best ≡ above
  pub enough : (k goal : ℕ) → k < count → goal_on_top (at k) ≡ Some goal → ReachesGoal above goal

-- else the first of those that stand there with the greatest goal.
pub record TakesOwn (count : ℕ) (above : Option Leaf) (at : ℕ → Trees) (best : Option Leaf) : Type 0 where
  pub number : ℕ
  pub leaf : Leaf
  pub best_is : best ≡ Some leaf
  pub own : leaf_on_top (at number) ≡ Some leaf
  pub greatest : IsFirstGreatest count (λ k. goal_on_top (at k)) number leaf.goal
  pub more : (other : Leaf) → above ≡ Some other → other.goal < leaf.goal

abbrev pub IsBest : ℕ → Option Leaf → (ℕ → Trees) → Option Leaf → Type 0
IsBest count above at best = KeepsAbove count above at best ⊎ TakesOwn count above at best

-- The branch that leads is that of the certificate with the greatest stated bound, of those that have a branch there, and the first
-- of these.
pub record Leads (certs : List Cert) (at : ℕ → Trees) (branch : Branch) : Type 0 where
  pub number : ℕ
  pub own : branch_on_top (at number) ≡ Some branch
  pub greatest : IsFirstGreatest (length certs) (λ k. low_on_top (certificate_at certs k).low (at k)) number (certificate_at certs number).low

-- ---- the joined tree

-- a leaf stands where no certificate has a branch: the best one, as it stands at that choice
pub record StandsAlone (i : Instance) (certs : List Cert) (c : Choice) (above : Option Leaf) (at : ℕ → Trees) (here : Leaf) : Type 0 where
  pub leaf : Leaf
  pub best : IsBest (length certs) above at (Some leaf)
  pub no_branch : (k : ℕ) → k < length certs → branch_on_top (at k) ≡ None
  pub stands : StandsAs i c leaf here

-- below a branch a certificate that has the same one has its own trees, and any other none
abbrev pub IsUnder : Branch → Trees → Trees → Type 0
IsUnder branch trees under =
    ((branch_on_top trees ≡ Some branch) × (under ≡ below_top trees))
    ⊎ ((branch_on_top trees ≢ Some branch) × (under ≡ none))

abbrev pub AreUnder : ℕ → Branch → (at under : ℕ → Trees) → Type 0
AreUnder count branch at under = (k : ℕ) → k < count → IsUnder branch (at k) (under k)

-- The joined trees of certificates for choices side by side, below a leaf from above, or none. Each certificate has trees there, by
-- its number, or none: it ended above, or another branch than its own leads. Where a branch leads, the best leaf goes down.
abbrev pub IsJoined : Instance → List Cert → List Choice → Option Leaf → (ℕ → Trees) → Trees → Type 0
IsJoined i certs [] above at none = Unit {0}
IsJoined i certs [] above at (grow node below beside) = ⊥
IsJoined i certs (c ∷ cs) above at none = ⊥
IsJoined i certs (c ∷ cs) above at (grow (node.Leaf here) below beside) =
    StandsAlone i certs c above at here
    × ((below ≡ none) × IsJoined i certs cs above (λ k. beside_top (at k)) beside)
IsJoined i certs (c ∷ cs) above at (grow (node.Branch branch) below beside) =
    Leads certs at branch
    × (((best : Option Leaf) × (under : ℕ → Trees) × (IsBest (length certs) above at best
    × (AreUnder (length certs) branch at under × IsJoined i certs (child_choices i c branch.kind) best under below)))
    × IsJoined i certs cs above (λ k. beside_top (at k)) beside)

-- the trees of certificates, by their numbers
abbrev pub own_trees : List Cert → ℕ → Trees
own_trees certs k = (certificate_at certs k).tree

-- the joined tree of certificates: from the choice of all plans on, below no leaf
abbrev pub IsJoinedTree : Instance → List Cert → Trees → Type 0
IsJoinedTree i certs tree = IsJoined i certs (root_choice i ∷ []) None (own_trees certs) tree
