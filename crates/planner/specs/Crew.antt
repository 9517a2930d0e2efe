-- What workers begin with, and what they come to together. Only private contracts ask for it.
use Rattle.std.specs.Prelude.{◌≡◌, ◌⊎◌, ℕ, ◌+◌, ◌-◌, ◌/◌, ◌≤◌, List, [], ◌∷◌, ◌++◌, map, length, sum_by, All, Option, None, Some, IsPermutation}
use Rattle.ttp_model.specs.Instance.{Instance}
use Rattle.search_workers.specs.Task.{Task, IsTask}
use Rattle.incumbent.specs.declared.word.Incumbent.{Incumbent}
use Rattle.incumbent.specs.declared.word.Watch.{Watch}
use Rattle.incumbent.specs.Watch.{first_value, offers, out_count, IsOpening, IsOther, IsSameWatch}
use Rattle.search_workers.specs.hand.Hand.{Hand}
use Rattle.search_workers.specs.Hand.{IsPool, IsSameHand, pushed, taken, all_pushed, all_taken}
use Rattle.search_workers.specs.declared.aims.Aims.{Aims}
use Rattle.search_workers.specs.declared.found.FoundPlan.{FoundPlan}
use Rattle.search_workers.specs.declared.report.Report.{Report}
use Rattle.search_workers.specs.Tasks.{Turn, IsTurn, tasks_of, pieces_of, all_born}
use Rattle.search_workers.specs.Goals.{goals_of, AreGoals, IsReached}
use Rattle.search_workers.specs.Best.{OffersBest}
use Rattle.search_workers.specs.declared.report.Rest.{Rest}
use Rattle.search_workers.specs.Report.{HasAccount, held, unpushed}
use Rattle.search_workers.specs.declared.job.Job.{Job}
use Rattle.planner.specs.declared.crew.Crew.{Crew}
use Rattle.search_workers.specs.Searching.{limit_of, IsFound}
use Rattle.search_workers.specs.manner.Manner.{Manner}
use Rattle.search_workers.specs.manner.Manner.TheVariants.{Plain, Sparing}

-- how much of a budget the workers have: all of it in a plain search, and else all but the last quarter
abbrev pub workers_part : Manner → ℕ → ℕ
workers_part Plain budget = budget
workers_part Sparing budget = budget - budget / 4

-- the report of a run with these aims that began with this job
pub record IsReportOfJob {J : Type 0} (i : Instance) (aims : Aims) (job : Job J) (report : Report J) : Type 0 where
  pub hand : IsSameHand job.hand report.hand
  pub watch : IsSameWatch job.watch report.watch
  pub account : HasAccount i job.hand report.hand report.pieces.items report.spared.items report.rest
  pub goals : AreGoals i aims job.watch report.watch (goals_of report.pieces.items)
  pub best : OffersBest i job.watch report.watch report.best
  pub within : length report.pieces.items ≤ job.budget

-- a job whose watch is one of this incumbent, not the opening one, and has offered nothing
pub record IsJob {J : Type 0} (word : Incumbent) (job : Job J) : Type 0 where
  pub other : IsOther word job.watch
  pub silent : offers job.watch ≡ []

-- reports of jobs, one of each, in order
abbrev pub AreReportsOf : {J : Type 0} → Instance → Aims → List (Job J) → List (Report J) → Type 0
AreReportsOf i aims [] [] = Unit {0}
AreReportsOf i aims [] (r ∷ rs) = ⊥
AreReportsOf i aims (job ∷ jobs) [] = ⊥
AreReportsOf i aims (job ∷ jobs) (r ∷ rs) = IsReportOfJob i aims job r × AreReportsOf i aims jobs rs

abbrev pub hands_of : {J : Type 0} → List (Job J) → List (Hand J)
hands_of {J} jobs = map (λ (job : Job J). job.hand) jobs

-- how many tasks are worked at most
abbrev pub budget_of : {J : Type 0} → List (Job J) → ℕ
budget_of {J} jobs = sum_by (λ (job : Job J). job.budget) jobs

-- the same hands, one after another
abbrev pub AreSameHands : {J : Type 0} → List (Hand J) → List (Hand J) → Type 0
AreSameHands [] [] = Unit {0}
AreSameHands [] (h ∷ hs) = ⊥
AreSameHands (g ∷ gs) [] = ⊥
AreSameHands (g ∷ gs) (h ∷ hs) = IsSameHand g h × AreSameHands gs hs

-- what was not worked: the tasks that were left or are in hand, and the children that weren't pushed
abbrev pub tasks_in : List Task → Rest → List Task
tasks_in spared rest = held spared rest ++ unpushed rest

-- two lists one behind the other, in either order
abbrev pub AreTogether : {X : Type 0} → List X → List X → List X → Type 0
AreTogether a b all = (all ≡ a ++ b) ⊎ (all ≡ b ++ a)

-- a plan that may have been found, which is no later than one before it
pub record IsNoLater (i : Instance) (old new : Option FoundPlan) : Type 0 where
  pub found : IsFound i new
  pub limit : limit_of i new ≤ limit_of i old

-- What workers that began with these hands came to: each piece is right for a task that one of them took. They took
-- these tasks and those that they hold; they pushed what their branches gave, but for what they hold of it. The best plan
-- is at most each offer, and each leaf's goal at least that of something that one of them has seen or offered.
pub record Gathers {J : Type 0} (i : Instance) (aims : Aims) (word : Incumbent) (count : ℕ) (begun : List (Hand J)) (crew : Crew J) : Type 0 where
  pub same : AreSameHands begun crew.hands.items
  pub turns : List Turn
  pub each : All (IsTurn i) turns
  pub pieces : pieces_of turns ≡ crew.pieces.items
  pub in_hand : List Task
  pub kept_back : List Task
  pub takes : IsPermutation (all_taken crew.hands.items) (all_taken begun ++ (tasks_of turns ++ in_hand))
  pub pushes : IsPermutation (all_pushed crew.hands.items ++ kept_back) (all_pushed begun ++ all_born i turns)
  pub rest : IsPermutation crew.tasks.items (in_hand ++ kept_back)
  pub open_tasks : All (IsTask i) crew.tasks.items
  pub opening : IsOpening word crew.watch
  pub joined : out_count crew.watch ≡ count - length begun
  pub found : IsFound i crew.best
  pub best : All (λ value. limit_of i crew.best ≤ value) (offers crew.watch)
  pub reached : All (IsReached i aims crew.watch) (goals_of crew.pieces.items)

-- the offers, with the delay of the plan that is known, where there is one
abbrev pub told : List ℕ → Option FoundPlan → List ℕ
told values None = values
told values (Some best) = values ++ best.delay ∷ []

-- the tasks that are left: these, and then those that were pushed and not taken
pub record HasLeft {J : Type 0} (hands : List (Hand J)) (tasks all : List Task) : Type 0 where
  pub drained : List Task
  pub then : all ≡ tasks ++ drained
  pub balance : IsPermutation (all_pushed hands) (drained ++ all_taken hands)

-- a hand was given tasks
pub record IsGiven {J : Type 0} (tasks : List Task) (old new : Hand J) : Type 0 where
  pub same : IsSameHand old new
  pub gave : List Task
  pub pushes : pushed new ≡ pushed old ++ gave
  pub all : IsPermutation gave tasks
  pub takes : taken new ≡ taken old

-- all workers of a pool have ended, whose first hand was given these tasks; their word began one past the horizon
pub record HaveEnded {J : Type 0} (i : Instance) (aims : Aims) (word : Incumbent) (given : List Task) (crew : Crew J) : Type 0 where
  pub begun : List (Hand J)
  pub gathers : Gathers i aims word (length begun) begun crew
  pub pool : IsPool begun
  pub pushes : IsPermutation (all_pushed begun) given
  pub takes : all_taken begun ≡ []
  pub top : first_value word ≡ i.cluster.horizon + 1

-- a job for each of these hands, in order; the budget is dealt, and a watch for each is split from the opening one
pub record AreDealt {J : Type 0} (word : Incumbent) (budget : ℕ) (before after : Watch) (given : List (Hand J)) (all : List (Job J)) : Type 0 where
  pub hands : hands_of all ≡ given
  pub jobs : All (IsJob word) all
  pub within : budget_of all ≤ budget
  pub out : out_count after ≡ out_count before + length all
  pub opening : IsOpening word after
  pub same : offers after ≡ offers before

-- no worker has begun: the word began one past the horizon, and was offered the delay of the plan that is known
pub record IsNobody {J : Type 0} (i : Instance) (word : Incumbent) (crew : Crew J) : Type 0 where
  pub hands : crew.hands.items ≡ []
  pub pieces : crew.pieces.items ≡ []
  pub tasks : crew.tasks.items ≡ []
  pub opening : IsOpening word crew.watch
  pub alone : out_count crew.watch ≡ 0
  pub found : IsFound i crew.best
  pub offered : offers crew.watch ≡ told [] crew.best
  pub top : first_value word ≡ i.cluster.horizon + 1
