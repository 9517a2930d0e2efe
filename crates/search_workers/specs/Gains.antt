-- What becomes of a task that is worked, and what is gained by that. Only private contracts ask for it.
use Rattle.std.specs.Prelude.{◌≡◌, ℕ, ◌<◌, ◌≤◌, List, [], length, All}
use Rattle.ttp_model.specs.declared.step.Leaf.{Leaf}
use Rattle.ttp_model.specs.declared.limits.TheConstants.{MOST_NODES}
use Rattle.ttp_model.specs.Instance.{Instance}
use Rattle.certificate.specs.declared.node.Node.TheVariants as node
use Rattle.branch_tree.specs.Task.{Task, IsTask}
use Rattle.search_workers.specs.declared.found.FoundPlan.{FoundPlan}
use Rattle.search_workers.specs.declared.turn.Gain.{Gain}
use Rattle.search_workers.specs.declared.turn.Gain.TheVariants.{Children, Nothing, Found}
use Rattle.search_workers.specs.Best.{IsPlanFound}
use Rattle.search_workers.specs.Goals.{goals_at}
use Rattle.search_workers.specs.Tasks.{Turn, IsTurn, born}

-- a branch, whose children these are
pub record HasChildren (i : Instance) (turn : Turn) (tasks : List Task) : Type 0 where
  pub born : tasks ≡ born i turn
  pub each : All (IsTask i) tasks
  pub few : length tasks ≤ MOST_NODES
  pub no_goal : goals_at turn.piece.node ≡ []

-- a leaf with this goal
pub record IsLeafOf (i : Instance) (goal : ℕ) (turn : Turn) : Type 0 where
  pub leaf : Leaf
  pub is : turn.piece.node ≡ node.Leaf leaf
  pub at : leaf.goal ≡ goal
  pub none : born i turn ≡ []

-- a leaf with a lower goal, and a plan that takes no longer than that
pub record HasPlan (i : Instance) (goal : ℕ) (turn : Turn) (plan : FoundPlan) : Type 0 where
  pub low : ℕ
  pub leaf : IsLeafOf i low turn
  pub below : low < goal
  pub found : IsPlanFound i plan.plan plan.delay
  pub no_later : plan.delay ≤ low

-- what is gained by each piece, at a goal
abbrev pub Gains : Instance → ℕ → Turn → Gain → Type 0
Gains i goal turn (Children kind tasks) = HasChildren i turn tasks.items
Gains i goal turn Nothing = IsLeafOf i goal turn
Gains i goal turn (Found plan) = HasPlan i goal turn plan

-- a task became a piece that is right for it, by which this is gained
pub record IsGain (i : Instance) (goal : ℕ) (turn : Turn) (gain : Gain) : Type 0 where
  pub right : IsTurn i turn
  pub gains : Gains i goal turn gain
