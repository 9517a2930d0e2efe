use Rattle.tt_infer.proofs.Sound.{step_is_about, step_is_true}
use Rattle.tt_infer.proofs.laws.rules_are_sound.Goals as goal

pub returns : goal.returns
returns c = record { true_of_the_plan = λ i ch g f step k plan w ok sought t. step_is_true i ch g f plan step w ok sought t k; about_the_instance = step_is_about }
