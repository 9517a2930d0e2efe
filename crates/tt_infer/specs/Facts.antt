-- Facts, with what they are about.
use Rattle.std.specs.Prelude.{ℕ}
use Rattle.ttp_model.specs.Instance.{Instance}
use Rattle.ttp_model.specs.Rules.{IsInstance}
use Rattle.tt_choice.specs.Choice.{Choice, IsChoice}
use Rattle.sought_plans.specs.Known.{Known, Fits, Hold}

-- an instance, a choice of it, a goal in ticks, and what is known of the settled plans of the choice
-- with a delay below the goal
pub record Facts : Type 0 where
  pub instance : Instance
  pub choice : Choice
  pub goal : ℕ
  pub known : Known

-- the same, but for what is known
abbrev pub after : Facts → Known → Facts
after s known = record s { known = known }

-- the choice is the instance's, and all that is known holds
pub record AreFacts (s : Facts) : Type 0 where
  pub instance : IsInstance s.instance
  pub choice : IsChoice s.instance s.choice
  pub fits : Fits s.instance s.known
  pub holds : Hold s.instance s.choice s.goal s.known
