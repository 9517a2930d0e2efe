-- The account of tasks: what was pushed is taken, and what was taken is worked. Lists of tasks, or of their names,
-- as the account's reader has them. Own profile.
use Rattle.std.specs.Prelude.{List, ◌∷◌, ◌++◌, Contains}
use Rattle.std.specs.List.Sorted.{IsPermutation}
use Rattle.search_trees.specs.declared.piece.Piece.{Piece}
use Rattle.search_trees.specs.Name.{Name, root_name}
use Rattle.search_trees.specs.Pieces.{names_of, all_below}

-- each that was taken was pushed
abbrev pub IsSourced : (A : Type 0) → List A → List A → Type 0
IsSourced A pushed taken = (t : A) → Contains taken t → Contains pushed t

-- each was pushed as often as it was taken
abbrev pub IsBalanced : (A : Type 0) → List A → List A → Type 0
IsBalanced A pushed taken = IsPermutation pushed taken

-- A worker's account. It took what it worked and what it still holds; and what its branches gave is
-- what it pushed and what it has still to push.
pub record IsReportOf (A : Type 0) (taken pushed worked born held unpushed : List A) : Type 0 where
  pub took : IsPermutation taken (worked ++ held)
  pub gave : IsPermutation born (pushed ++ unpushed)

-- The names of a tree, each once: those of pieces and the open ones are the root's and those below
-- the pieces.
abbrev pub IsWholeTree : List Piece → List Name → Type 0
IsWholeTree pieces unworked = IsPermutation (names_of pieces ++ unworked) (root_name ∷ all_below pieces)
