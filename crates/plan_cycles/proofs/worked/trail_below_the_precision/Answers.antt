use Rattle.std.proofs.Common.{lit≤}
use Rattle.plan_cycles.proofs.PairPlan.{pair_plan_is_valid, starts_too_early}
use Rattle.plan_cycles.proofs.PairRules.{pair_breaks_alone}
use Rattle.plan_cycles.proofs.worked.trail_below_the_precision.Goals as goal

pub returns-clause-alone : goal.returns-clause-alone
returns-clause-alone c = pair_breaks_alone

pub returns-clause-valid : goal.returns-clause-valid
returns-clause-valid c = pair_plan_is_valid 0 8 (lit≤ tt) (lit≤ tt)

pub returns-clause-early : goal.returns-clause-early
returns-clause-early c = starts_too_early
