-- What of several certificates is left where some nodes of their joined tree were made. Only private contracts ask for it.
use Rattle.std.specs.Prelude.{◌≡◌, ℕ, ◌+◌, ◌<◌, ◌≤◌, ◌⊎◌, List, [], ◌∷◌, ◌++◌, length, drop, slice_index_or, Option, None, Some, Bool, false, IsTrue, IsFalse}
use Rattle.ttp_model.specs.declared.step.Leaf.{Leaf}
use Rattle.ttp_model.specs.Instance.{Instance}
use Rattle.tt_choice.specs.Choice.{Choice, IsChoice}
use Rattle.certificate.specs.declared.branch.Branch.{Branch}
use Rattle.certificate.specs.declared.head.Head.{Head}
use Rattle.certificate.specs.declared.head.Head.TheVariants.{OfBranch}
use Rattle.certificate.specs.declared.node.Node.{Node}
use Rattle.certificate.specs.Trees.{Trees, none, AreTrees, preorder, first_trees, trees_after}
use Rattle.certificate.specs.Cert.{Cert}
use Rattle.tree_check.specs.Proofs.{AreProofs}
use Rattle.side_by_side.specs.declared.side.Side.{Side}
use Rattle.side_by_side.specs.Standing.{ClosesAround}
use Rattle.side_by_side.specs.Joined.{IsJoined, certificate_at}
use Rattle.side_by_side.specs.Found.{side_at}

-- ---- one certificate behind a place

-- a line is that of the branch that leads
abbrev pub GoesOn : Option Branch → Option Head → Type 0
GoesOn None top = ⊥
GoesOn (Some branch) top = top ≡ Some (OfBranch branch)

abbrev pub flag_at : List Bool → ℕ → Bool
flag_at flags k = slice_index_or flags k false

-- nodes begin with those of a tree, in which each has just its children
abbrev pub BeginsWithTree : List Node → Type 0
BeginsWithTree nodes = (tree : Trees) × (more : List Node) × (AreTrees 1 tree × (nodes ≡ preorder tree ++ more))

-- a certificate that takes part at a place has a tree there
abbrev pub MayBePassed : List Node → Side → ℕ → Type 0
MayBePassed nodes side depth = depth ≤ side.level → BeginsWithTree (drop side.passed nodes)

-- How far a certificate is passed: no further, where it takes no part; below its branch, where it goes on; and else behind its tree.
pub record IsPassed (nodes : List Node) (depth : ℕ) (on : Bool) (old new : Side) : Type 0 where
  pub away : old.level < depth → new ≡ old
  pub down : depth ≤ old.level → IsTrue on → new ≡ record { passed = old.passed + 1; level = depth + 1 }
  pub level : depth ≤ old.level → IsFalse on → new.level ≡ depth
  pub behind : depth ≤ old.level → IsFalse on → (tree : Trees) (more : List Node) → AreTrees 1 tree
      → drop old.passed nodes ≡ preorder tree ++ more → drop new.passed nodes ≡ more

pub record ArePassed (certs : List Cert) (depth : ℕ) (flags : List Bool) (old new : List Side) : Type 0 where
  pub count : length new ≡ length old
  pub each : (k : ℕ) → k < length certs
      → IsPassed (preorder (certificate_at certs k).tree) depth (flag_at flags k) (side_at old k) (side_at new k)

-- ---- the places that are still to come

-- Places side by side below one branch: their choices, the leaf from above, and the trees of each certificate there.
pub record Group : Type 0 where
  pub choices : List Choice
  pub above : Option Leaf
  pub at : ℕ → Trees

-- trees below so many branches: as many as there are choices where a certificate takes part there, and else none
pub record HasThere (height level count : ℕ) (trees : Trees) : Type 0 where
  pub shared : height ≤ level → AreTrees count trees
  pub passed : level < height → trees ≡ none

-- The nodes that are left of a certificate are those of its trees at the places to come, the innermost first.
abbrev pub IsLeft : ℕ → List Group → (level : ℕ) → List Node → Type 0
IsLeft k [] level rest = rest ≡ []
IsLeft k (g ∷ gs) level rest =
    (more : List Node) × ((rest ≡ preorder (g.at k) ++ more) × (HasThere (length gs) level (length g.choices) (g.at k) × IsLeft k gs level more))

-- trees are the joined ones of all places to come
abbrev pub AreJoined : Instance → List Cert → List Group → Trees → Type 0
AreJoined i certs [] trees = trees ≡ none
AreJoined i certs (g ∷ gs) trees =
    IsJoined i certs g.choices g.above g.at (first_trees (length g.choices) trees) × AreJoined i certs gs (trees_after (length g.choices) trees)

abbrev pub all_choices : List Group → List Choice
all_choices [] = []
all_choices (g ∷ gs) = g.choices ++ all_choices gs

-- the leaf from above, if there is one, closes a choice around each
abbrev pub IsHeldAt : Instance → Choice → Option Leaf → Type 0
IsHeldAt i c None = Unit {0}
IsHeldAt i c (Some leaf) = ClosesAround i c leaf

abbrev pub AreHeld : Instance → Option Leaf → List Choice → Type 0
AreHeld i above [] = Unit {0}
AreHeld i above (c ∷ cs) = (IsChoice i c × IsHeldAt i c above) × AreHeld i above cs

-- and one of the certificates takes part there
pub record IsGroup (i : Instance) (certs : List Cert) (g : Group) : Type 0 where
  pub held : AreHeld i g.above g.choices
  pub number : ℕ
  pub inside : number < length certs
  pub someone : AreTrees (length g.choices) (g.at number)

abbrev pub AreGroups : Instance → List Cert → List Group → Type 0
AreGroups i certs [] = Unit {0}
AreGroups i certs (g ∷ gs) = IsGroup i certs g × AreGroups i certs gs

-- a certificate's trees are right wherever it has some
abbrev pub AreRight : Instance → ℕ → List Group → Type 0
AreRight i k [] = Unit {0}
AreRight i k (g ∷ gs) = ((g.at k ≡ none) ⊎ AreProofs i 0 g.choices (g.at k)) × AreRight i k gs
