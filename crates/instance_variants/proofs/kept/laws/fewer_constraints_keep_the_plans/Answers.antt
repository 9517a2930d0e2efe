use Rattle.instance_variants.proofs.KeptLaws.{plan_kept, no_plan_left, plan_by_fewer, no_plan_by_more}
use Rattle.instance_variants.proofs.kept.laws.fewer_constraints_keep_the_plans.Goals as goal

pub returns-clause-plans : goal.returns-clause-plans
returns-clause-plans c = plan_kept

pub returns-clause-none : goal.returns-clause-none
returns-clause-none c = no_plan_left

pub returns-clause-fewer : goal.returns-clause-fewer
returns-clause-fewer c = plan_by_fewer

pub returns-clause-more : goal.returns-clause-more
returns-clause-more c = no_plan_by_more
