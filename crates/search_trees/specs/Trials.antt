-- What a propagation says of a choice. Own profile.
use Rattle.std.specs.Prelude.{◌≡◌, ℕ, ◌<◌}
use Rattle.ttp_model.specs.declared.plan.Plan.{Plan}
use Rattle.ttp_model.specs.declared.step.Leaf.{Leaf}
use Rattle.ttp_model.specs.Instance.{Instance}
use Rattle.ttp_model.specs.Chains.{IsPathBound}
use Rattle.tt_choice.specs.Choice.{Choice, IsComplete}
use Rattle.path_bounds.specs.PlansBelow.{IsPlanBelow}
use Rattle.path_bounds.specs.Facts.{Facts}
use Rattle.path_bounds.specs.Leaves.{ClosesSharply}
use Rattle.search_trees.specs.declared.trial.Trial.{Trial}
use Rattle.search_trees.specs.declared.trial.Trial.TheVariants.{Closed, At}

-- a leaf closes the choice at this goal
pub record ClosesAt (i : Instance) (c : Choice) (goal : ℕ) (leaf : Leaf) : Type 0 where
  pub at : leaf.goal ≡ goal
  pub closes : ClosesSharply i c leaf

-- Plans of the choice with a delay below the goal may be left: the goal is above the path bound, and
-- where nothing is left to choose there is one.
pub record IsLeft (i : Instance) (c : Choice) (goal : ℕ) (facts : Facts) : Type 0 where
  pub of : facts.instance ≡ i
  pub above : (bound : ℕ) → IsPathBound i bound → bound < goal
  pub finds : IsComplete i c → (plan : Plan) × IsPlanBelow i c goal plan

-- a leaf at the goal, or what is known of plans that may be left
abbrev pub IsTrial : Instance → Choice → ℕ → Trial → Type 0
IsTrial i c goal (Closed leaf) = ClosesAt i c goal leaf
IsTrial i c goal (At facts) = IsLeft i c goal facts
