-- A certificate's tree as far as it was gone through. Only private contracts ask for it.
use Rattle.std.specs.Prelude.{◌≡◌, ℕ, ◌<◌, ◌≤◌, ◌⊎◌, List, [], ◌∷◌, ◌++◌, map, filter, reverse, All, Option}
use Rattle.ttp_model.specs.declared.step.Leaf.{Leaf}
use Rattle.ttp_model.specs.Instance.{Instance}
use Rattle.tt_choice.specs.Choice.{Choice}
use Rattle.certificate.specs.declared.branch.Branch.{Branch}
use Rattle.certificate.specs.declared.node.Node.{Node}
use Rattle.certificate.specs.declared.node.Node.TheVariants as node
use Rattle.certificate.specs.Trees.{Trees, preorder}
use Rattle.tree_check.specs.Proofs.{AreProofs}
use Rattle.search_workers.specs.piece.Piece.{Piece}
use Rattle.search_workers.specs.Task.{Task, IsTask, choice_of}
use Rattle.search_workers.specs.Tasks.{Turn, IsTurn, born}
use Rattle.search_workers.specs.declared.aims.Aims.{Aims}
use Rattle.search_workers.specs.declared.found.FoundPlan.{FoundPlan}
use Rattle.search_workers.specs.Searching.{aim_of, IsSearching}
use Rattle.planner.specs.declared.replay.Replay.{Replay}
use Rattle.planner.specs.declared.fault.BeginFault.{BeginFault}
use Rattle.planner.specs.declared.fault.BeginFault.TheVariants.{TooDeep, OutOfMemory}
use Rattle.planner.specs.Begun.{nodes_of, is_open, outline, stays, AreLeavesOf, IsDeep}

-- nodes in preorder of trees that are proofs for these choices, one after another
pub record ProveAll (i : Instance) (low : ℕ) (cs : List Choice) (nodes : List Node) : Type 0 where
  pub trees : Trees
  pub are : preorder trees ≡ nodes
  pub proofs : AreProofs i low cs trees

-- The search as it stands when these nodes are still to come: they prove the bound for the tasks that come next, the last first.
pub record Stands (i : Instance) (aims : Aims) (best : Option FoundPlan) (low aim : ℕ) (pieces : List Piece) (tasks : List Task) (leaves : List Piece)
    (next : List Task) (nodes : List Node) : Type 0 where
  pub searching : IsSearching i aims pieces (tasks ++ next) best
  pub aim_is : aim ≡ aim_of i aims best
  pub leaves_are : AreLeavesOf i low tasks leaves
  pub proofs : ProveAll i low (map (choice_of i) (reverse next)) nodes

abbrev pub IsReplay : Instance → Aims → Option FoundPlan → ℕ → Replay → List Node → Type 0
IsReplay i aims best low r nodes = Stands i aims best low r.aim r.pieces.items r.tasks.items r.leaves.items r.next.items nodes

-- a task became a piece, and the children of this come next
pub record TakesTurn (i : Instance) (old new : Replay) (turn : Turn) : Type 0 where
  pub right : IsTurn i turn
  pub children : All (IsTask i) (born i turn)
  pub pieces : new.pieces.items ≡ old.pieces.items ++ turn.piece ∷ []
  pub next : new.next.items ≡ old.next.items ++ reverse (born i turn)
  pub tasks : new.tasks.items ≡ old.tasks.items
  pub leaves : new.leaves.items ≡ old.leaves.items
  pub aim : new.aim ≡ old.aim

-- a branch became a piece
pub record Splits (i : Instance) (old new : Replay) (task : Task) (branch : Branch) : Type 0 where
  pub turn : Turn
  pub is : turn.task ≡ task
  pub node_is : turn.piece.node ≡ node.Branch branch
  pub takes : TakesTurn i old new turn

-- a task at whose choice a leaf stays closed became a piece of the same goal
pub record StaysClosed (i : Instance) (old new : Replay) (task : Task) (leaf : Leaf) : Type 0 where
  pub turn : Turn
  pub sharp : Leaf
  pub is : turn.task ≡ task
  pub node_is : turn.piece.node ≡ node.Leaf sharp
  pub goal : sharp.goal ≡ leaf.goal
  pub takes : TakesTurn i old new turn

-- a task is left open, and this leaf stands there
pub record StaysOpen (old new : Replay) (task : Task) (leaf : Leaf) : Type 0 where
  pub piece : Piece
  pub name : piece.name ≡ task.name
  pub node_is : piece.node ≡ node.Leaf leaf
  pub pieces : new.pieces.items ≡ old.pieces.items
  pub next : new.next.items ≡ old.next.items
  pub tasks : new.tasks.items ≡ old.tasks.items ++ task ∷ []
  pub leaves : new.leaves.items ≡ old.leaves.items ++ piece ∷ []
  pub aim : new.aim ≡ old.aim

-- either, by the leaf's goal
abbrev pub EndsAt : Instance → Replay → Replay → Task → Leaf → Type 0
EndsAt i old new task leaf =
    ((leaf.goal < old.aim) × StaysOpen old new task leaf) ⊎ ((old.aim ≤ leaf.goal) × StaysClosed i old new task leaf)

-- what becomes of a task where this node stands
abbrev pub Takes : Instance → Replay → Replay → Task → Node → Type 0
Takes i old new task (node.Branch branch) = Splits i old new task branch
Takes i old new task (node.Leaf leaf) = EndsAt i old new task leaf

-- these nodes more were gone through
pub record GoesThrough (i : Instance) (old new : Replay) (nodes : List Node) : Type 0 where
  pub replay : (aims : Aims) (best : Option FoundPlan) (low : ℕ) (others : List Node)
      → IsReplay i aims best low old (nodes ++ others) → IsReplay i aims best low new others
  pub kept : map outline (nodes_of new.pieces.items) ≡ map outline (nodes_of old.pieces.items) ++ map outline (filter (stays old.aim) nodes)
  pub open_leaves : nodes_of new.leaves.items ≡ nodes_of old.leaves.items ++ filter (is_open old.aim) nodes
  pub aim : new.aim ≡ old.aim

-- a node on this line is a branch that is too deep
pub record IsDeepAt (i : Instance) (one : Node) (line at : ℕ) : Type 0 where
  pub branch : Branch
  pub is : one ≡ node.Branch branch
  pub at_is : at ≡ line
  pub task : Task
  pub deep : IsDeep i task branch

abbrev pub IsNodeFault : Instance → Node → ℕ → BeginFault → Type 0
IsNodeFault i one line (TooDeep at) = IsDeepAt i one line at
IsNodeFault i one line OutOfMemory = Unit {0}
