-- A run of a worker between two turns, and what a turn changes. Only private contracts ask for it.
use Rattle.std.specs.Prelude.{◌≡◌, ◌≢◌, ℕ, ◌+◌, ◌-◌, ◌*◌, ◌^◌, min, ◌≤◌, ◌⊎◌, List, [], ◌∷◌, ◌++◌, All, Some, IsPermutation}
use Rattle.ttp_model.specs.Instance.{Instance}
use Rattle.branch_tree.specs.Task.{Task, IsTask}
use Rattle.incumbent.specs.declared.word.Watch.{Watch}
use Rattle.incumbent.specs.Watch.{offers}
use Rattle.steal_pool.specs.declared.hand.Hand.{Hand}
use Rattle.steal_pool.specs.Hand.{pushed, taken, IsSameHand}
use Rattle.search_workers.specs.declared.aims.Aims.{Aims}
use Rattle.search_workers.specs.declared.found.FoundPlan.{FoundPlan}
use Rattle.search_workers.specs.declared.report.Rest.{Rest}
use Rattle.search_workers.specs.declared.report.Rest.TheVariants as hold
use Rattle.search_workers.specs.declared.run.Run.{Run}
use Rattle.search_workers.specs.declared.run.Sweep.{Sweep}
use Rattle.search_workers.specs.declared.run.Sweep.TheVariants.{Idle, Worked, Spared, Ended}
use Rattle.search_workers.specs.Tasks.{Turn, IsTurn, born}
use Rattle.search_workers.specs.Goals.{goals_at, goals_of, AreGoals, Follows, IsBelowGoals, IsReached}
use Rattle.search_workers.specs.Best.{IsPlanFound, OffersBest}
use Rattle.search_workers.specs.Report.{HasAccount, held, unpushed}

-- for how many pieces a worker keeps room that made and left so many: for as many of each worker and 4096 more, as far as a list can be long
abbrev pub room_kept : ℕ → ℕ → ℕ
room_kept ends workers = min (ends * workers + 4096) (2 ^ 64 - 1)

-- a run with these aims that began with this hand and this watch, and has this in hand
pub record IsRun {J : Type 0} (i : Instance) (aims : Aims) (hand : Hand J) (watch : Watch) (run : Run J) (rest : Rest) : Type 0 where
  pub same : IsSameHand hand run.hand
  pub follows : Follows watch run.watch
  pub account : HasAccount i hand run.hand run.pieces.items run.spared.items rest
  pub goals : AreGoals i aims watch run.watch (goals_of run.pieces.items)
  pub best : OffersBest i watch run.watch run.best

-- no plan was found
pub record KeepsBest {J : Type 0} (old new : Run J) : Type 0 where
  pub offered : offers new.watch ≡ offers old.watch
  pub best : new.best ≡ old.best

-- a plan was found that is better than all that were offered
pub record FindsBest {J : Type 0} (i : Instance) (old new : Run J) : Type 0 where
  pub found : FoundPlan
  pub is : IsPlanFound i found.plan found.delay
  pub best : new.best ≡ Some found
  pub offered : offers new.watch ≡ offers old.watch ++ found.delay ∷ []
  pub least : All (λ value. found.delay ≤ value) (offers old.watch)

-- of tasks some were pushed behind those that were before, and the others are left
pub record Pushes (before after tasks left : List Task) : Type 0 where
  pub gave : List Task
  pub pushes : after ≡ before ++ gave
  pub all : IsPermutation tasks (gave ++ left)

-- a turn worked a task, which became this piece; these children are still to be pushed
pub record Works {J : Type 0} (i : Instance) (aims : Aims) (old new : Run J) (turn : Turn) (rest : List Task) : Type 0 where
  pub same : IsSameHand old.hand new.hand
  pub takes : taken new.hand ≡ taken old.hand
  pub pushes : Pushes (pushed old.hand) (pushed new.hand) (born i turn) rest
  pub pieces : new.pieces.items ≡ old.pieces.items
  pub spared : new.spared.items ≡ old.spared.items
  pub right : IsTurn i turn
  pub left : All (IsTask i) rest
  pub follows : Follows old.watch new.watch
  pub below : All (IsBelowGoals i aims old.watch) (goals_at turn.piece.node)
  pub reached : All (IsReached i aims new.watch) (goals_at turn.piece.node)
  pub best : KeepsBest old new ⊎ FindsBest i old new

-- a turn worked nothing
pub record Refuses {J : Type 0} (old new : Run J) : Type 0 where
  pub same : IsSameHand old.hand new.hand
  pub takes : taken new.hand ≡ taken old.hand
  pub pushes : pushed new.hand ≡ pushed old.hand
  pub pieces : new.pieces.items ≡ old.pieces.items
  pub spared : new.spared.items ≡ old.spared.items
  pub follows : Follows old.watch new.watch
  pub best : KeepsBest old new

-- what is in hand after a turn
abbrev pub rest_after : Sweep → Rest
rest_after Idle = hold.Nothing
rest_after Worked = hold.Nothing
rest_after Spared = hold.Nothing
rest_after (Ended rest) = rest

-- a task was left, or is still in hand
pub record Spares {J : Type 0} (task : Task) (old new : Run J) (sweep : Sweep) : Type 0 where
  pub hand : new.hand ≡ old.hand
  pub watch : new.watch ≡ old.watch
  pub pieces : new.pieces.items ≡ old.pieces.items
  pub best : new.best ≡ old.best
  pub left : held new.spared.items (rest_after sweep) ≡ old.spared.items ++ task ∷ []
  pub others : unpushed (rest_after sweep) ≡ []
  pub unworked : sweep ≢ Worked

-- however the run began, it goes on
abbrev pub GoesOn : {J : Type 0} → Instance → Aims → Run J → Run J → Rest → Type 0
GoesOn {J} i aims old new rest = (hand : Hand J) (watch : Watch) → IsRun i aims hand watch old hold.Nothing → IsRun i aims hand watch new rest
