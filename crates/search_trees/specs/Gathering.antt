-- Why pieces are no tree, or none that shows a bound. Own profile.
use Rattle.std.specs.Prelude.{◌≡◌, ℕ, ◌≤◌, List, ◌∷◌, length, count_by, Contains, All, nat_eq}
use Rattle.std.specs.Cmp.Lexicographic.{pointwise}
use Rattle.ttp_model.specs.declared.step.Leaf.{Leaf}
use Rattle.certificate.specs.Limits.{most_branches_above}
use Rattle.certificate.specs.declared.node.Node.{Node}
use Rattle.certificate.specs.declared.node.Node.TheVariants as node
use Rattle.certificate.specs.Versions.{version_of_tree}
use Rattle.certificate.specs.Cert.{Cert}
use Rattle.search_trees.specs.declared.piece.Piece.{Piece}
use Rattle.search_trees.specs.Name.{Name, root_name}
use Rattle.search_trees.specs.Pieces.{names_of, all_below}
use Rattle.search_trees.specs.declared.fault.GatherFault.{GatherFault}
use Rattle.search_trees.specs.declared.fault.GatherFault.TheVariants.{DoubledName, MissingName, StrayName, LowGoal, OutOfMemory}
use Rattle.search_trees.specs.Trees.{IsTreeOf}

-- how often a name stands among names
abbrev pub times : List Name → Name → ℕ
times names name = count_by (λ other. pointwise nat_eq other name) names

-- the names that there should be: the root's and those of all children
abbrev pub wanted_names : List Piece → List Name
wanted_names pieces = root_name ∷ all_below pieces

-- a name stands at two pieces or more
pub record HasDoubledName (pieces : List Piece) : Type 0 where
  pub name : Name
  pub twice : 2 ≤ times (names_of pieces) name

-- the root or a child of a branch isn't there
pub record LacksName (pieces : List Piece) : Type 0 where
  pub name : Name
  pub wanted : Contains (wanted_names pieces) name
  pub lacking : ¬ Contains (names_of pieces) name

-- a name is there, and no branch has it as a child
pub record HasStrayName (pieces : List Piece) : Type 0 where
  pub name : Name
  pub there : Contains (names_of pieces) name
  pub unwanted : ¬ Contains (wanted_names pieces) name

-- no name stands twice
abbrev pub IsOnce : List Piece → Type 0
IsOnce pieces = (name : Name) → times (names_of pieces) name ≤ 1

-- the root and each child of a branch is there
abbrev pub HasWantedNames : List Piece → Type 0
HasWantedNames pieces = (name : Name) → Contains (wanted_names pieces) name → Contains (names_of pieces) name

-- no other name is there
abbrev pub IsOwn : List Piece → Type 0
IsOwn pieces = (name : Name) → Contains (names_of pieces) name → Contains (wanted_names pieces) name

-- the pieces have the names of a tree: each once, none lacking, and no other
pub record HasTreeNames (pieces : List Piece) : Type 0 where
  pub once : IsOnce pieces
  pub complete : HasWantedNames pieces
  pub own : IsOwn pieces

-- a leaf
pub record IsLeafPiece (piece : Piece) : Type 0 where
  pub leaf : Leaf
  pub is : piece.node ≡ node.Leaf leaf

-- a leaf's goal isn't below the bound; of a branch nothing is asked
abbrev pub HasGoal : ℕ → Node → Type 0
HasGoal low (node.Branch branch) = Unit {0}
HasGoal low (node.Leaf leaf) = low ≤ leaf.goal

-- a leaf's goal is below the bound
pub record HasLowLeaf (low : ℕ) (pieces : List Piece) : Type 0 where
  pub piece : Piece
  pub there : Contains pieces piece
  pub below : ¬ HasGoal low piece.node

-- each leaf's goal is at least the bound
abbrev pub HaveGoals : ℕ → List Piece → Type 0
HaveGoals low pieces = All (λ piece. HasGoal low piece.node) pieces

-- no name has more branches above it than a certificate may have
abbrev pub AreShallow : List Piece → Type 0
AreShallow pieces = All (λ piece. length piece.name ≤ most_branches_above) pieces

-- the first fault of pieces, in the order in which faults are told; nothing is said of a want of memory
abbrev pub IsFirstGatherFault : ℕ → List Piece → GatherFault → Type 0
IsFirstGatherFault low pieces DoubledName = HasDoubledName pieces
IsFirstGatherFault low pieces MissingName = IsOnce pieces × LacksName pieces
IsFirstGatherFault low pieces StrayName = IsOnce pieces × HasWantedNames pieces × HasStrayName pieces
IsFirstGatherFault low pieces LowGoal = HasTreeNames pieces × HasLowLeaf low pieces
IsFirstGatherFault low pieces OutOfMemory = Unit {0}

-- a certificate of a bound whose tree is that of the pieces, with no goal below the bound, in version 1 where that allows all
-- lines of the tree, and else in version 2
pub record IsGathered (low : ℕ) (pieces : List Piece) (cert : Cert) : Type 0 where
  pub version : cert.version ≡ version_of_tree cert.tree
  pub bound : cert.low ≡ low
  pub tree : IsTreeOf pieces cert.tree
  pub goals : HaveGoals low pieces
