-- What is said of a step is said of what it is.
use Rattle.std.proofs.Common.{◌≡◌, Result}
use Rattle.ttp_model.specs.declared.step.Step.{Step}
use Rattle.sought_plans.specs.Known.{Known}
use Rattle.sought_plans.specs.Setting.{Setting}
use Rattle.tt_infer.specs.Setting.{TakesOf}
use Rattle.tt_infer.specs.declared.fault.StepFault.{StepFault}

pub takes_same : (s : Setting) (f : Known) (step said : Step) (g : Known) (result : Result Unit StepFault) → step ≡ said → TakesOf s f said g result
    → TakesOf s f step g result
takes_same s f step said g result is takes = rw is takes
