use Rattle.std.proofs.Common.{refl, lit≤}
use Rattle.plan_cycles.specs.Worked.{pair_plan, pair_with}
use Rattle.plan_cycles.proofs.Behind.{behind_frames}
use Rattle.plan_cycles.proofs.PairPlan.{pair_plan_is_valid}
use Rattle.plan_cycles.proofs.PairRules.{pair_is_instance}
use Rattle.plan_cycles.proofs.Repeated.{repeats}
use Rattle.plan_cycles.proofs.worked.pair_that_repeats.Goals as goal

pub returns-clause-instance : goal.returns-clause-instance
returns-clause-instance c = pair_is_instance

pub returns-clause-valid : goal.returns-clause-valid
returns-clause-valid c = pair_plan_is_valid 1 10 (lit≤ tt) (lit≤ tt)

pub returns-clause-round : goal.returns-clause-round
returns-clause-round c = refl

pub returns-clause-cycle : goal.returns-clause-cycle
returns-clause-cycle c = refl

pub returns-clause-held : goal.returns-clause-held
returns-clause-held c = refl

pub returns-clause-repeats : goal.returns-clause-repeats
returns-clause-repeats c = repeats 25 2 (pair_with 1) (pair_plan 10) pair_is_instance (pair_plan_is_valid 1 10 (lit≤ tt) (lit≤ tt)) (lit≤ tt) (lit≤ tt)

pub returns-clause-behind : goal.returns-clause-behind
returns-clause-behind c = behind_frames (pair_with 1) (pair_plan 10) 25 pair_is_instance.trail (pair_plan_is_valid 1 10 (lit≤ tt) (lit≤ tt))
