use Rattle.tt_infer.proofs.Sound.{Fits-step, Hold-step}
use Rattle.tt_infer.proofs.laws.steps_are_sound.Goals as goal

pub returns : goal.returns
returns c = record { holds = Hold-step; fits = Fits-step }
