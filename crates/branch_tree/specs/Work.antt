-- What became of a worked task. Own profile.
use Rattle.std.specs.Prelude.{◌≡◌, ℕ, ◌<◌, ◌≤◌, min, List, length, slice_index_or, All}
use Rattle.ttp_model.specs.declared.plan.Plan.{Plan}
use Rattle.ttp_model.specs.declared.step.Kind.{Kind}
use Rattle.ttp_model.specs.declared.step.Kind.TheVariants.{Place}
use Rattle.ttp_model.specs.declared.step.Leaf.{Leaf}
use Rattle.ttp_model.specs.Instance.{Instance}
use Rattle.ttp_model.specs.Plans.{IsValid}
use Rattle.ttp_model.specs.Delays.{delay}
use Rattle.ttp_model.specs.Chains.{IsPathBound}
use Rattle.ttp_model.specs.Moves.{IsSettled, MovesLead}
use Rattle.tt_choice.specs.Choice.{Choice, IsIn, IsComplete}
use Rattle.tt_choice.specs.Branches.{IsBranch}
use Rattle.tt_choice.specs.Sizes.{size_left}
use Rattle.tt_infer.specs.Leaves.{ClosesSharply}
use Rattle.earliest_starts.specs.Answers.{IsEarliest}
use Rattle.certificate.specs.declared.node.Node.TheVariants.{Leaf as AsLeaf}
use Rattle.search_trees.specs.declared.piece.Piece.{Piece}
use Rattle.branch_tree.specs.declared.worked.Worked.{Worked}
use Rattle.branch_tree.specs.declared.worked.Worked.TheVariants.{Split, Closed, Found}
use Rattle.search_trees.specs.Task.{Task, choice_of, root_task, IsTask, AreChildren}
pub use Rattle.search_trees.specs.Trials.{ClosesAt}

-- each valid plan of the task is in a child
abbrev pub Cover : Instance → Task → List Task → Type 0
Cover i t tasks = (plan : Plan) → IsValid i plan → IsIn i (choice_of i t) plan
    → (k : ℕ) × (k < length tasks) × IsIn i (choice_of i (slice_index_or tasks k t)) plan

-- An open branch of a choice that leaves something to choose, at a goal above the path bound, and a
-- task for each of its children, in order. The root's branch places a node, where there are several.
pub record IsSplit (i : Instance) (t : Task) (goal : ℕ) (kind : Kind) (tasks : List Task) : Type 0 where
  pub incomplete : ¬ IsComplete i (choice_of i t)
  pub above : (bound : ℕ) → IsPathBound i bound → bound < goal
  pub branch : IsBranch i (choice_of i t) kind (length tasks)
  pub children : AreChildren i t kind tasks
  pub each : All (IsTask i) tasks
  pub smaller : All (λ (task : Task). size_left i (choice_of i task) < size_left i (choice_of i t)) tasks
  pub cover : Cover i t tasks
  pub root : t ≡ root_task → 2 ≤ length i.nodes → kind ≡ Place

-- The earliest plan of a complete choice has a delay below the goal. It was settled, by moves that lead
-- from it, and then has this delay; and a leaf closes the choice at the delay that it had.
pub record IsFind (i : Instance) (c : Choice) (goal : ℕ) (plan : Plan) (ticks : ℕ) (leaf : Leaf) : Type 0 where
  pub complete : IsComplete i c
  pub earliest : Plan
  pub is_earliest : IsEarliest i c earliest
  pub at : leaf.goal ≡ delay i earliest
  pub below : leaf.goal < goal
  pub leads : MovesLead i earliest plan
  pub settled : IsSettled i plan
  pub delay_is : ticks ≡ delay i plan
  pub no_later : ticks ≤ leaf.goal
  pub closes : ClosesSharply i c leaf

-- what is answered for a task at a goal
abbrev pub IsWorked : Instance → Task → ℕ → Worked → Type 0
IsWorked i t goal (Split kind tasks) = IsSplit i t goal kind tasks.items
IsWorked i t goal (Closed leaf) = ClosesAt i (choice_of i t) goal leaf
IsWorked i t goal (Found plan ticks leaf) = IsFind i (choice_of i t) goal plan ticks leaf

-- the task's leaf, at a goal of at most this one and at least the lesser of it and the path bound
pub record IsLeftClosed (i : Instance) (t : Task) (top : ℕ) (piece : Piece) : Type 0 where
  pub leaf : Leaf
  pub node : piece.node ≡ AsLeaf leaf
  pub name : piece.name ≡ t.name
  pub closes : ClosesSharply i (choice_of i t) leaf
  pub most : leaf.goal ≤ top
  pub least : (bound : ℕ) → IsPathBound i bound → min top bound ≤ leaf.goal

-- the plan of a complete choice was found
abbrev pub IsWorkedFind : Instance → Choice → ℕ → Worked → Type 0
IsWorkedFind i c goal (Split kind tasks) = ⊥
IsWorkedFind i c goal (Closed leaf) = ⊥
IsWorkedFind i c goal (Found plan ticks leaf) = IsFind i c goal plan ticks leaf
