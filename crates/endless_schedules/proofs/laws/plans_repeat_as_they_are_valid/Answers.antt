use Rattle.endless_schedules.proofs.Complete.{is_valid}
use Rattle.endless_schedules.proofs.Sound.{repeats_rightly}
use Rattle.endless_schedules.proofs.laws.plans_repeat_as_they_are_valid.Goals as goal

pub returns : goal.returns
returns c = λ rho plan w i. (λ v. repeats_rightly rho plan w i v, λ formed. is_valid rho plan w i formed.0 formed.1)
