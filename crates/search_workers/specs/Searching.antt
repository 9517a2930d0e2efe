-- A search as it stands: what was made of the tree so far, what is left, and the best plan found.
use Rattle.std.specs.Prelude.{◌≡◌, ℕ, ◌+◌, ◌<◌, ◌≤◌, List, [], ◌∷◌, ◌++◌, map, length, All, Option, None, Some, IsPermutation}
use Rattle.ttp_model.specs.Instance.{Instance}
use Rattle.search_workers.specs.piece.Piece.{Piece}
use Rattle.search_workers.specs.Name.{Name}
use Rattle.search_workers.specs.Task.{Task, IsTask, root_task}
use Rattle.search_workers.specs.Best.{IsPlanFound}
use Rattle.search_workers.specs.declared.aims.Aims.{Aims}
use Rattle.search_workers.specs.declared.found.FoundPlan.{FoundPlan}
use Rattle.search_workers.specs.declared.search.Search.{Search}
use Rattle.search_workers.specs.Goals.{goal_of}
use Rattle.search_workers.specs.Tasks.{Turn, IsTurn, tasks_of, pieces_of, all_born}
use Rattle.search_trees.specs.Gathering.{HaveGoals}
use Rattle.search_workers.specs.declared.outcome.Why.{Why}
use Rattle.search_workers.specs.declared.outcome.Why.TheVariants.{Budget, Memory, CalledOff, Gap, Part}

-- the delay that the search had to beat: that of the best plan found, or one tick past the horizon
abbrev pub limit_of : Instance → Option FoundPlan → ℕ
limit_of i None = i.cluster.horizon + 1
limit_of i (Some best) = best.delay

-- the goal at which it works then
abbrev pub aim_of : Instance → Aims → Option FoundPlan → ℕ
aim_of i aims best = goal_of i aims (limit_of i best)

-- the plan that was found, where one was, is settled and has its delay
abbrev pub IsFound : Instance → Option FoundPlan → Type 0
IsFound i None = Unit {0}
IsFound i (Some best) = IsPlanFound i best.plan best.delay

abbrev pub task_names : List Task → List Name
task_names tasks = map (λ (t : Task). t.name) tasks

-- Each piece is right for a task of the instance. These tasks and the open ones are those that it began with and the children of all
-- branches, each as often. No leaf's goal is below the one at which the search works.
pub record IsSearchingOf (i : Instance) (aims : Aims) (roots : List Task) (made : List Piece) (tasks : List Task) (best : Option FoundPlan) : Type 0 where
  pub turns : List Turn
  pub each : All (IsTurn i) turns
  pub pieces : pieces_of turns ≡ made
  pub account : IsPermutation (tasks_of turns ++ tasks) (roots ++ all_born i turns)
  pub open_tasks : All (IsTask i) tasks
  pub goals : HaveGoals (aim_of i aims best) made
  pub found : IsFound i best

-- a search that began with the whole tree
abbrev pub IsSearching : Instance → Aims → List Piece → List Task → Option FoundPlan → Type 0
IsSearching i aims made tasks best = IsSearchingOf i aims (root_task ∷ []) made tasks best

-- a search of some tasks, of which some may be left aside: these it doesn't know
abbrev pub IsSomeSearch : Instance → Aims → Search → Type 0
IsSomeSearch i aims search = (roots : List Task) × (aside : List Task)
    × IsSearchingOf i aims roots search.pieces.items (aside ++ search.tasks.items) search.best

-- with whatever the search began, and whatever is left aside, it goes on
abbrev pub SearchGoesOn : Instance → Aims → Search → Search → Type 0
SearchGoesOn i aims old new = (roots aside : List Task)
    → IsSearchingOf i aims roots old.pieces.items (aside ++ old.tasks.items) old.best
    → IsSearchingOf i aims roots new.pieces.items (aside ++ new.tasks.items) new.best

-- how many were worked: as many as the budget allows where it was the cause, and fewer where memory was, or the search was called off; no turn ends
-- by the gap, nor since it was only of a part
abbrev pub IsWorkedOut : ℕ → List Piece → Why → Type 0
IsWorkedOut budget worked Budget = length worked ≡ budget
IsWorkedOut budget worked Memory = length worked < budget
IsWorkedOut budget worked CalledOff = length worked < budget
IsWorkedOut budget worked Gap = ⊥
IsWorkedOut budget worked Part = ⊥

-- why turns ended before so many were worked: memory was refused, or they were called off
abbrev pub IsCutShort : ℕ → List Piece → Why → Type 0
IsCutShort most worked Memory = length worked < most
IsCutShort most worked CalledOff = length worked < most
IsCutShort most worked Budget = ⊥
IsCutShort most worked Gap = ⊥
IsCutShort most worked Part = ⊥

-- the better of two plans that may have been found
pub record IsBetter (i : Instance) (a b best : Option FoundPlan) : Type 0 where
  pub found : IsFound i best
  pub first : limit_of i best ≤ limit_of i a
  pub second : limit_of i best ≤ limit_of i b
