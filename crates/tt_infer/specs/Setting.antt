-- What is known of plans that are sought, and what the answer to a step says of them.
use Rattle.std.specs.Prelude.{Result}
use Rattle.ttp_model.specs.declared.step.Step.{Step}
use Rattle.sought_plans.specs.Known.{Known}
use Rattle.sought_plans.specs.Setting.{Setting}
use Rattle.tt_infer.specs.declared.fault.StepFault.{StepFault}
use Rattle.tt_infer.specs.Answers.{Takes}
use Rattle.tt_infer.specs.Facts.{Facts}

-- these plans, with what is known of them
abbrev pub inference : Setting → Known → Facts
inference s known = record { instance = s.instance; choice = s.choice; goal = s.goal; known = known }

-- what the answer to a step says, of these plans
abbrev pub TakesOf : Setting → Known → Step → Known → Result Unit StepFault → Type 0
TakesOf s f step g result = Takes s.instance s.choice s.goal f step g result
