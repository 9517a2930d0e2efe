-- What is found where nothing is left to choose.
use Rattle.std.specs.Prelude.{ℕ, ◌<◌}
use Rattle.ttp_model.specs.declared.plan.Plan.{Plan}
use Rattle.ttp_model.specs.Instance.{Instance}
use Rattle.ttp_model.specs.Plans.{IsValid}
use Rattle.ttp_model.specs.Delays.{delay}
use Rattle.tt_choice.specs.Choice.{Choice, IsIn}

-- a valid plan of the choice with a delay below the goal
pub record IsPlanBelow (i : Instance) (c : Choice) (goal : ℕ) (plan : Plan) : Type 0 where
  pub valid : IsValid i plan
  pub chosen : IsIn i c plan
  pub better : delay i plan < goal
