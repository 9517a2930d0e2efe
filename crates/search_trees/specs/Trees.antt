-- The tree that pieces are, and the pieces of a tree. Own profile.
use Rattle.std.specs.Prelude.{ℕ, ◌+◌, List, [], ◌∷◌, ◌++◌}
use Rattle.std.specs.List.Sorted.{IsPermutation}
use Rattle.certificate.specs.Trees.{Trees, none, grow, AreTrees}
use Rattle.search_trees.specs.declared.piece.Piece.{Piece}
use Rattle.search_trees.specs.Name.{Name, root_name, child_name}

-- the pieces of trees side by side, which are the children of a name from this number on: each in front of
-- those below it
abbrev pub pieces_below : Name → ℕ → Trees → List Piece
pieces_below name k none = []
pieces_below name k (grow node below beside) =
    record { name = child_name name k; node = node }
    ∷ (pieces_below (child_name name k) 0 below ++ pieces_below name (k + 1) beside)

-- the pieces of a tree, whose top node is the root
abbrev pub pieces_of : Trees → List Piece
pieces_of none = []
pieces_of (grow node below beside) = record { name = root_name; node = node } ∷ pieces_below root_name 0 below

-- one tree, in which each node has just its children, and whose pieces are these, in any order
pub record IsTreeOf (pieces : List Piece) (tree : Trees) : Type 0 where
  pub one : AreTrees 1 tree
  pub same : IsPermutation pieces (pieces_of tree)
