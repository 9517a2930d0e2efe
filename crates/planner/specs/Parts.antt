-- Which of the open leaves of a certificate are a part's own, and which are left to others.
use Rattle.std.specs.Prelude.{◌≡◌, ℕ, ◌+◌, ◌%◌, ◌<◌, ◌==◌, if◌then◌else◌, List, [], ◌∷◌, ◌++◌, length, Bool, IsPermutation}
use Rattle.ttp_model.specs.Instance.{Instance}
use Rattle.certificate.specs.declared.node.Node.{Node}
use Rattle.search_workers.specs.piece.Piece.{Piece}
use Rattle.search_workers.specs.Task.{Task}
use Rattle.planner.specs.Begun.{nodes_of, AreLeavesOf}
use Rattle.planner.specs.declared.begun.Begun.{Begun}
use Rattle.planner.specs.declared.parts.Dealt.{Dealt}
use Rattle.planner.specs.declared.parts.Portion.{Portion}

-- a part has a number, which is below how many there are
abbrev pub IsPortion : Portion → Type 0
IsPortion part = part.number < part.count

-- whether an open leaf with this number is the part's own
abbrev pub is_own : Portion → ℕ → Bool
is_own part number = (number % part.count) == part.number

-- of open leaves, numbered from this one on, those that a part leaves to others
abbrev pub others_of : Portion → ℕ → List Node → List Node
others_of part number [] = []
others_of part number (leaf ∷ leaves) = if is_own part number then others_of part (number + 1) leaves else leaf ∷ others_of part (number + 1) leaves

-- Of these tasks, a leaf of each of which is given, some of the part's own are worked. The others are aside, and their leaves stay: those of all other
-- parts, and of its own those that are spared; which these are isn't said.
pub record IsDealt (part : Portion) (tasks : List Task) (leaves : List Piece) (own aside : List Task) (others : List Piece) : Type 0 where
  pub all : IsPermutation tasks (aside ++ own)
  pub stand : (i : Instance) (low : ℕ) → AreLeavesOf i low tasks leaves → AreLeavesOf i low aside others
  pub spared : List Node
  pub left : IsPermutation (nodes_of others) (others_of part 0 (nodes_of leaves) ++ spared)

-- the same search, of a part's own tasks
pub record IsPartOf (part : Portion) (begun : Begun) (dealt : Dealt) : Type 0 where
  pub pieces : dealt.search.pieces.items ≡ begun.search.pieces.items
  pub best : dealt.search.best ≡ begun.search.best
  pub deals : IsDealt part begun.search.tasks.items begun.leaves.items dealt.search.tasks.items dealt.aside.items dealt.others.items

-- Tasks and their leaves are dealt out from the last one on, as far as to these. Only private contracts ask for it.
pub record Deals (part : Portion) (tasks : List Task) (leaves : List Piece) (front : List Task) (before : List Piece) (own aside : List Task)
    (others : List Piece) : Type 0 where
  pub tasks_behind : List Task
  pub leaves_behind : List Piece
  pub tasks_are : tasks ≡ front ++ tasks_behind
  pub leaves_are : leaves ≡ before ++ leaves_behind
  pub many : length front ≡ length before
  pub all : IsPermutation tasks_behind (aside ++ own)
  pub stand : (i : Instance) (low : ℕ) → AreLeavesOf i low tasks leaves → AreLeavesOf i low front before × AreLeavesOf i low aside others
  pub spared : List Node
  pub left : IsPermutation (nodes_of others) (others_of part (length front) (nodes_of leaves_behind) ++ spared)
