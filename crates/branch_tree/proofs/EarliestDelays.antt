-- The earliest plan of a complete choice has the least delay of its valid plans.
use Rattle.std.proofs.Common.{ℕ, ◌<◌, ◌≤◌, length, arith}
use Rattle.ttp_model.specs.declared.plan.Plan.{Plan}
use Rattle.ttp_model.specs.Instance.{Instance}
use Rattle.ttp_model.specs.Rules.{IsInstance}
use Rattle.ttp_model.specs.Plans.{IsValid, end_of}
use Rattle.ttp_model.specs.Delays.{delay}
use Rattle.ttp_model.proofs.ValidPlans.{greatest_each, greatest_reached}
use Rattle.tt_choice.specs.Choice.{Choice, IsIn}
use Rattle.search_trees.specs.PlansBelow.{IsPlanBelow}
use Rattle.earliest_starts.specs.Answers.{IsEarliest}

pub earliest_delay : (i : Instance) (c : Choice) (plan other : Plan) → IsInstance i → IsEarliest i c plan → IsValid i other → IsIn i c other
    → delay i plan ≤ delay i other
earliest_delay i c plan other w first v there =
    let last = greatest_reached (end_of i plan) (length i.processes) (omega (arith, w.limits.processes_least)) in
    let later = greatest_each (end_of i other) (length i.processes) last.0 last.1 in
    omega (arith, last.2, later, first.least other v there last.0 last.1)

-- it is below the goal, where a plan of the choice is
pub earliest_below : (i : Instance) (c : Choice) (goal : ℕ) (plan : Plan) → IsInstance i → IsEarliest i c plan
    → (better_one : (other : Plan) × IsPlanBelow i c goal other) → delay i plan < goal
earliest_below i c goal plan w first better_one =
    let s = better_one.1 in
    omega (arith, earliest_delay i c plan better_one.0 w first s.valid s.chosen, s.better)

-- no plan is below the goal where all valid ones end at it or later
pub none_better : (i : Instance) (c : Choice) (goal : ℕ) → ((other : Plan) → IsValid i other → IsIn i c other → goal ≤ delay i other)
    → (better_one : (other : Plan) × IsPlanBelow i c goal other) → ⊥
none_better i c goal least better_one =
    let s = better_one.1 in
    absurd (omega (arith, least better_one.0 s.valid s.chosen, s.better))
