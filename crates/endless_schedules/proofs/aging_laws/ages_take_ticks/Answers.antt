use Rattle.std.proofs.Common.{arith}
use Rattle.endless_schedules.proofs.LaterEnds.{some_age}
use Rattle.endless_schedules.proofs.OwnAges.{same_age}
use Rattle.endless_schedules.proofs.aging_laws.ages_take_ticks.Goals as goal

pub returns : goal.returns
returns c = λ rho plan x age w i inside v is.
    let repeats = (c.plans_repeat_as_they_are_valid.ensures rho plan w i).0 v in
    omega (arith, same_age rho x w inside plan age is, some_age rho plan w i repeats.1 x inside)
