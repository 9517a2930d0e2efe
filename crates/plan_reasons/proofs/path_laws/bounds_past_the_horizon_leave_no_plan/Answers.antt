use Rattle.std.proofs.Common.{arith}
use Rattle.ttp_model.proofs.PlanNumbers.{delay_small, path_bound-le-delay}
use Rattle.plan_reasons.proofs.path_laws.bounds_past_the_horizon_leave_no_plan.Goals as goal

pub returns : goal.returns
returns c = λ i bound w is late plan valid. omega (arith, late, delay_small i plan w valid, path_bound-le-delay i plan w valid bound is)
