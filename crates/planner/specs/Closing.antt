-- What closes the tasks that a search leaves. Only private contracts ask for it.
use Rattle.std.specs.Prelude.{◌≡◌, ℕ, ◌<◌, ◌⊎◌, List, ◌++◌, All, Contains}
use Rattle.ttp_model.specs.declared.step.Leaf.{Leaf}
use Rattle.ttp_model.specs.Instance.{Instance}
use Rattle.certificate.specs.declared.node.Node.TheVariants as node
use Rattle.certificate.specs.Cert.{Cert}
use Rattle.search_workers.specs.piece.Piece.{Piece}
use Rattle.tt_infer.specs.Leaves.{ClosesLeaf}
use Rattle.search_workers.specs.Task.{Task, choice_of}
use Rattle.search_workers.specs.Pieces.{names_of}
use Rattle.search_workers.specs.Work.{IsLeftClosed}
use Rattle.search_workers.specs.Gathering.{HaveGoals, IsGathered}
use Rattle.search_workers.specs.Searching.{task_names}
use Rattle.planner.specs.Searched.{ReachesGoal}

-- a piece closes one of these tasks
pub record ClosesOne (i : Instance) (tasks : List Task) (top : ℕ) (piece : Piece) : Type 0 where
  pub task : Task
  pub there : Contains tasks task
  pub is : IsLeftClosed i task top piece

-- leaves close these tasks, in order; the least of the top and their goals
pub record AreClosed (i : Instance) (tasks : List Task) (top : ℕ) (closed : List Piece) (low : ℕ) : Type 0 where
  pub names : names_of closed ≡ task_names tasks
  pub each : All (ClosesOne i tasks top) closed
  pub goals : HaveGoals low closed
  pub least : (low ≡ top) ⊎ ((low < top) × ReachesGoal low closed)

-- a leaf stands where one of these tasks begins, and closes it
pub record IsEndOf (i : Instance) (tasks : List Task) (piece : Piece) : Type 0 where
  pub task : Task
  pub there : Contains tasks task
  pub name : piece.name ≡ task.name
  pub leaf : Leaf
  pub is : piece.node ≡ node.Leaf leaf
  pub closes : ClosesLeaf i (choice_of i task) leaf

-- leaves close these tasks, in order, whatever their goals are
pub record AreEnds (i : Instance) (tasks : List Task) (ends : List Piece) : Type 0 where
  pub names : names_of ends ≡ task_names tasks
  pub each : All (IsEndOf i tasks) ends

-- the pieces that close these tasks stand behind pieces that were worked
pub record AreClosedBehind (i : Instance) (worked : List Piece) (tasks : List Task) (top : ℕ) (all : List Piece) (low : ℕ) : Type 0 where
  pub closed : List Piece
  pub are : AreClosed i tasks top closed low
  pub joined : all ≡ worked ++ closed

-- the certificate of a tree that was worked, and whose open tasks are closed
pub record IsClosedTree (i : Instance) (worked : List Piece) (tasks : List Task) (top : ℕ) (cert : Cert) : Type 0 where
  pub low : ℕ
  pub closed : List Piece
  pub are : AreClosed i tasks top closed low
  pub gathered : IsGathered low (worked ++ closed) cert

-- behind pieces that were worked stand those that close a part's own tasks, and the leaves of all others
pub record IsPartClosed (i : Instance) (worked : List Piece) (tasks : List Task) (others : List Piece) (top : ℕ) (all : List Piece) : Type 0 where
  pub low : ℕ
  pub closed : List Piece
  pub are : AreClosed i tasks top closed low
  pub joined : all ≡ (worked ++ closed) ++ others
