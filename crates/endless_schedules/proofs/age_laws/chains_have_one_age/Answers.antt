use Rattle.endless_schedules.proofs.OneAge.{one_age, some_age}
use Rattle.endless_schedules.proofs.age_laws.chains_have_one_age.Goals as goal

pub returns-clause-some : goal.returns-clause-some
returns-clause-some c = λ rho plan x w inside. some_age rho plan x w inside

pub returns-clause-one : goal.returns-clause-one
returns-clause-one c = λ rho plan x one other first second. one_age rho plan x one other first second
