-- The worked nodes of a tree, and when each is right for the choice that it stands at. Own profile.
use Rattle.std.specs.Prelude.{ℕ, ◌<◌, List, map, Contains}
use Rattle.std.specs.List.{flat_map}
use Rattle.ttp_model.specs.Instance.{Instance}
use Rattle.tt_choice.specs.Choice.{Choice}
use Rattle.tt_choice.specs.Branches.{IsBranch, root_choice, child}
use Rattle.path_bounds.specs.Leaves.{ClosesLeaf, ClosesSharply}
use Rattle.certificate.specs.declared.node.Node.{Node}
use Rattle.certificate.specs.declared.node.Node.TheVariants as node
use Rattle.certificate.specs.Trees.{children}
use Rattle.search_trees.specs.declared.piece.Piece.{Piece}
use Rattle.search_trees.specs.Name.{Name, root_name, child_name, child_names}

-- the names of the children of a piece, rising; none of a leaf
abbrev pub names_below : Piece → List Name
names_below piece = child_names piece.name (children piece.node)

-- the names of pieces, and of all children of pieces
abbrev pub names_of : List Piece → List Name
names_of pieces = map (λ piece. piece.name) pieces

abbrev pub all_below : List Piece → List Name
all_below pieces = flat_map names_below pieces

-- a node is right for a choice: an open branch with just its children, or a leaf that closes it
abbrev pub IsRight : Instance → Choice → Node → Type 0
IsRight i c (node.Branch branch) = IsBranch i c branch.kind branch.children
IsRight i c (node.Leaf leaf) = ClosesLeaf i c leaf

-- a leaf is sharp where each of its steps says more than is known before it
abbrev pub IsSharp : Instance → Choice → Node → Type 0
IsSharp i c (node.Branch branch) = Unit {0}
IsSharp i c (node.Leaf leaf) = ClosesSharply i c leaf

-- the choice that a node's branch leads to at a child; the same below a leaf
abbrev pub choice_below : Instance → Choice → Node → ℕ → Choice
choice_below i c (node.Branch branch) k = child i c branch.kind k
choice_below i c (node.Leaf leaf) k = c

-- the choice that stands at a name, by the branches of these pieces
pub data StandsAt (i : Instance) (pieces : List Piece) : Name → Choice → Type 0 where
  at_root : StandsAt i pieces root_name (root_choice i)
  at_child : (piece : Piece) (c : Choice) (k : ℕ) → Contains pieces piece
      → StandsAt i pieces piece.name c → k < children piece.node
      → StandsAt i pieces (child_name piece.name k) (choice_below i c piece.node k)

-- each piece is right for the choice that stands at its name
abbrev pub AreRight : Instance → List Piece → Type 0
AreRight i pieces = (piece : Piece) (c : Choice)
    → Contains pieces piece → StandsAt i pieces piece.name c → IsRight i c piece.node
