use Rattle.step_logs.proofs.Logs.{advances_refl}
use Rattle.step_logs.proofs.acceleration.accelerate.Goals as goal

pub returns-in_err-steps : goal.returns-in_err-steps
returns-in_err-steps c = advances_refl _
