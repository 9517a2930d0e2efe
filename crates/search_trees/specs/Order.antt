-- Pieces in the order of their names: the first index that differs decides, and a name goes before those
-- that begin with it. Only private contracts ask for it.
use Rattle.std.specs.Prelude.{◌≡◌, ℕ, ◌-◌, ◌<◌, List, [], ◌∷◌, Contains, slice_index_or}
use Rattle.std.specs.List.{AllByRecursion}
use Rattle.std.specs.List.Sorted as sorted
use Rattle.std.specs.Ordering.{nat_cmp}
use Rattle.std.specs.declared.cmp.Ordering.{Ordering}
use Rattle.std.specs.declared.cmp.Ordering.TheVariants.{Less}
use Rattle.std.specs.Cmp.Lexicographic.{slice_cmp}
use Rattle.certificate.specs.Trees.{children}
use Rattle.search_trees.specs.declared.piece.Piece.{Piece}
use Rattle.search_trees.specs.Name.{Name, child_name}
use Rattle.search_trees.specs.Pieces.{names_of}
use Rattle.search_trees.specs.Gathering.{wanted_names, HasWantedNames, IsOwn, HaveGoals}

abbrev pub compare : Name → Name → Ordering
compare = slice_cmp nat_cmp

abbrev pub SortsBefore : Name → Name → Type 0
SortsBefore a b = compare a b ≡ Less

-- no piece's name goes before that of an earlier piece
abbrev pub IsSorted : List Piece → Type 0
IsSorted pieces = sorted.IsSortedByKey (λ (piece : Piece). piece.name) compare pieces

-- each piece's name goes before those of all later pieces
abbrev pub Rises : List Piece → Type 0
Rises [] = Unit {0}
Rises (piece ∷ pieces) = AllByRecursion (λ later. SortsBefore piece.name later.name) pieces × Rises pieces

-- the piece at a place has the name of the one before it
abbrev pub IsSameAsBefore : List Piece → ℕ → Type 0
IsSameAsBefore pieces k = (d : Piece) → (slice_index_or pieces k d).name ≡ (slice_index_or pieces (k - 1) d).name

-- there should be a piece with this name
abbrev pub IsWanted : List Piece → Name → Type 0
IsWanted pieces name = Contains (wanted_names pieces) name

-- each child of a piece is there
abbrev pub HasEachChild : List Piece → Piece → Type 0
HasEachChild pieces piece =
    (k : ℕ) → k < children piece.node → Contains (names_of pieces) (child_name piece.name k)

-- a child of a piece isn't there
pub record LacksChild (pieces : List Piece) (piece : Piece) : Type 0 where
  pub index : ℕ
  pub child : index < children piece.node
  pub lacking : ¬ Contains (names_of pieces) (child_name piece.name index)

-- the pieces, in order, are a tree without low leaves
pub record IsSound (low : ℕ) (pieces : List Piece) : Type 0 where
  pub up : Rises pieces
  pub complete : HasWantedNames pieces
  pub own : IsOwn pieces
  pub goals : HaveGoals low pieces
