-- What a worker reports, and when it accounts for all tasks that it took.
use Rattle.std.specs.Prelude.{◌≡◌, ℕ, ◌+◌, ◌≤◌, List, [], ◌∷◌, ◌++◌, All, IsPermutation}
use Rattle.ttp_model.specs.Instance.{Instance}
use Rattle.tt_choice.specs.declared.decision.Decision.{Decision}
use Rattle.used_decisions.specs.RuledOut.{IsRuledOut}
use Rattle.used_decisions.specs.Proved.{all_kept}
use Rattle.used_decisions.specs.Needs.{HoldUpTo}
use Rattle.used_decisions.specs.declared.needs.Needs.{Needs}
use Rattle.branch_tree.specs.piece.Piece.{Piece}
use Rattle.branch_tree.specs.Task.{Task, IsTask}
use Rattle.branch_tree.specs.Account.{IsReportOf}
use Rattle.steal_pool.specs.declared.hand.Hand.{Hand}
use Rattle.steal_pool.specs.Hand.{pushed, taken}
use Rattle.search_workers.specs.declared.report.Rest.{Rest}
use Rattle.search_workers.specs.declared.report.Rest.TheVariants.{Nothing, One, Children}
use Rattle.search_workers.specs.Goals.{goals_of}
use Rattle.search_workers.specs.Tasks.{Turn, IsTurn, tasks_of, pieces_of, all_born}

-- the tasks that were taken and not worked: those that needn't be, and the one in hand
abbrev pub held : List Task → Rest → List Task
held spared Nothing = spared
held spared (One task) = spared ++ task ∷ []
held spared (Children tasks) = spared

-- the children that were not pushed
abbrev pub unpushed : Rest → List Task
unpushed Nothing = []
unpushed (One task) = []
unpushed (Children tasks) = tasks.items

-- a bound that neither the tick past the horizon nor a leaf of these pieces is below
abbrev pub IsReachedBy : Instance → ℕ → List Piece → Type 0
IsReachedBy i low made = (low ≤ i.cluster.horizon + 1) × All (λ goal. low ≤ goal) (goals_of made)

-- A task that needn't be worked: it stands in a subtree in which, at each such bound, no plan below it is left by leaves of a search.
pub record IsSpared (i : Instance) (made : List Piece) (task : Task) : Type 0 where
  pub front : List Decision
  pub more : List Decision
  pub decisions : task.decisions ≡ front ++ more
  pub ruled_out : (low : ℕ) → IsReachedBy i low made → IsRuledOut i low (all_kept front)

-- what is known of such subtrees holds at each such bound, and the tasks that were left needn't be worked
pub record AreSpared (i : Instance) (made : List Piece) (spared : List Task) (needs : Needs) : Type 0 where
  pub each : All (IsSpared i made) spared
  pub holds : (low : ℕ) → IsReachedBy i low made → HoldUpTo i low needs

-- The account of a run: each piece is right for a task. What the hand took since are these tasks, those that were spared and
-- the one that it still holds; what their branches gave it pushed, or holds as well.
pub record HasAccount {J : Type 0} (i : Instance) (old new : Hand J) (made : List Piece) (spared : List Task) (rest : Rest) : Type 0 where
  pub turns : List Turn
  pub each : All (IsTurn i) turns
  pub pieces : pieces_of turns ≡ made
  pub took : List Task
  pub takes : IsPermutation (taken new) (taken old ++ took)
  pub gave : List Task
  pub pushes : pushed new ≡ pushed old ++ gave
  pub account : IsReportOf Task took gave (tasks_of turns) (all_born i turns) (held spared rest) (unpushed rest)
  pub one_of : All (IsTask i) (held spared rest)
  pub others_of : All (IsTask i) (unpushed rest)
