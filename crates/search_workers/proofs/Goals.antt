-- The goals of delays, and what a watch's view says of them.
use Rattle.std.proofs.Common.{◌≡◌, ℕ, ◌-◌, ◌<◌, ◌≤◌, max, min, List, All, inl, inr, refl, arith}
use Rattle.std.proofs.lemmas.Bool.{cases_lt, le-leb, lt-leb}
use Rattle.ttp_model.specs.Instance.{Instance}
use Rattle.incumbent.specs.declared.word.Watch.{Watch}
use Rattle.incumbent.specs.Watch.{seen, offers, IsBelowView}
use Rattle.search_workers.specs.declared.aims.Aims.{Aims}
use Rattle.search_workers.specs.Goals.{goal_of, IsBelowGoals}

-- within the horizon a goal is less by the gap, but no less than the floor; past it the same
pub goal_within : (i : Instance) (aims : Aims) (seen : ℕ) → seen ≤ i.cluster.horizon → goal_of i aims seen ≡ max (seen - aims.gap) (min seen aims.floor)
goal_within i aims seen le = rw (le-leb seen i.cluster.horizon le) refl

pub goal_past : (i : Instance) (aims : Aims) (seen : ℕ) → i.cluster.horizon < seen → goal_of i aims seen ≡ seen
goal_past i aims seen lt = rw (lt-leb seen i.cluster.horizon lt) refl

-- no goal is above its delay, nor below the lesser of it and the floor, nor further below it than the gap
pub goal_below : (i : Instance) (aims : Aims) (seen : ℕ) → goal_of i aims seen ≤ seen
goal_below i aims seen = elim (cases_lt i.cluster.horizon seen) [
  | inl past ↦ omega (arith, goal_past i aims seen past)
  | inr within ↦ omega (arith, goal_within i aims seen within)
]

pub goal_above : (i : Instance) (aims : Aims) (seen : ℕ) → min seen aims.floor ≤ goal_of i aims seen
goal_above i aims seen = elim (cases_lt i.cluster.horizon seen) [
  | inl past ↦ omega (arith, goal_past i aims seen past)
  | inr within ↦ omega (arith, goal_within i aims seen within)
]

pub goal_near : (i : Instance) (aims : Aims) (seen : ℕ) → seen - aims.gap ≤ goal_of i aims seen
goal_near i aims seen = elim (cases_lt i.cluster.horizon seen) [
  | inl past ↦ omega (arith, goal_past i aims seen past)
  | inr within ↦ omega (arith, goal_within i aims seen within)
]

-- a greater delay has no smaller goal
pub goal_rises : (i : Instance) (aims : Aims) (less more : ℕ) → less ≤ more → goal_of i aims less ≤ goal_of i aims more
goal_rises i aims less more le = elim (cases_lt i.cluster.horizon more) [
  | inl past ↦ omega (arith, goal_past i aims more past, goal_below i aims less, le)
  | inr within ↦ omega (arith, goal_within i aims more within, goal_within i aims less (omega (arith, le, within)), le)
]

goals_above : (i : Instance) (aims : Aims) (value goal : ℕ) (xs : List ℕ) → goal ≤ goal_of i aims value → All (λ x. value ≤ x) xs
    → All (λ x. goal ≤ goal_of i aims x) xs
goals_above i aims value goal xs le all = λ k d lt. omega (arith, goal_rises i aims value _ (all k d lt), le)

-- what is at most the goal of a delay that is at most all in view
pub below_goals : (i : Instance) (aims : Aims) (w : Watch) (value goal : ℕ) → IsBelowView w value → goal ≤ goal_of i aims value → IsBelowGoals i aims w goal
below_goals i aims w value goal h le = (goals_above i aims value goal (seen w) le h.0, goals_above i aims value goal (offers w) le h.1)
