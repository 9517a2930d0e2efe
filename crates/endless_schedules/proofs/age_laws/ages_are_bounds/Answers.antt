use Rattle.endless_schedules.proofs.Bounded.{valid_with_bound}
use Rattle.endless_schedules.proofs.age_laws.ages_are_bounds.Goals as goal

pub returns : goal.returns
returns c = λ rho plan x most w i inside less. valid_with_bound rho plan x most w i inside less
